pub mod FromSource
pub mod WhatIsPut
