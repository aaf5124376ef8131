-- Room never becomes less where no list gets a smaller capacity.
use Rattle.std.proofs.Common.{◌≡◌, ◌⊎◌, ℕ, ◌+◌, ◌-◌, ◌≤◌, min, arith, inl, inr}

pub room-same : (n : ℕ) → n ≤ n
room-same n = omega arith

pub nodes-kept : (a b x y m n : ℕ) → a ≤ x → b ≤ y → n ≡ m → min a b - m ≤ min x y - n
nodes-kept a b x y m n = omega arith

pub edges-kept : (a b c x y z m n : ℕ) → a ≤ x → b ≤ y → c ≤ z → n ≡ m → min 4294967295 (min a (min b c)) - m ≤ min 4294967295 (min x (min y z)) - n
edges-kept a b c x y z m n = omega arith

-- what each list has room for, all have room for
pub nodes-room : (a b m k n : ℕ) → m + n ≤ a → k + n ≤ b → k ≡ m → n ≤ min a b - m
nodes-room a b m k n = omega arith

pub edges-room : (a b c m k n : ℕ) → m + n ≤ a → k + n ≤ b → m + n ≤ c → k ≡ m → m + n ≤ 4294967295 → n ≤ min 4294967295 (min a (min b c)) - m
edges-room a b c m k n = omega arith

-- where one list has no room, there is none
pub nodes-none : (a b m : ℕ) → (a ≤ m) ⊎ (b ≤ m) → min a b - m ≡ 0
nodes-none a b m h = elim h [ inl l ↦ omega (arith, l) | inr l ↦ omega (arith, l) ]

pub edges-none : (a b c m : ℕ) → (a ≤ m) ⊎ (b ≤ m) ⊎ (c ≤ m) → min 4294967295 (min a (min b c)) - m ≡ 0
edges-none a b c m h = elim h [ inl l ↦ omega (arith, l) | inr k ↦ elim k [ inl l ↦ omega (arith, l) | inr l ↦ omega (arith, l) ] ]

pub edges-most : (n m : ℕ) → 4294967295 ≤ m → min 4294967295 n - m ≡ 0
edges-most n m = omega arith

-- one element more takes the room of one
pub nodes-pushed : (a b x y m n : ℕ) → a ≤ x → b ≤ y → n ≡ m + 1 → min a b - m ≤ min x y - n + 1
nodes-pushed a b x y m n = omega arith

pub edges-pushed : (a b c x y z m n : ℕ) → a ≤ x → b ≤ y → c ≤ z → n ≡ m + 1 → min 4294967295 (min a (min b c)) - m ≤ min 4294967295 (min x (min y z)) - n + 1
edges-pushed a b c x y z m n = omega arith
