-- What the top call does.
use Rattle.std.specs.Prelude.{◌≡◌, ◌⊎◌, ℕ, ◌≤◌, List, Option, codes}
use Rattle.std.specs.Io.KnownBytes.{Appends, Keeps}
use Rattle.byte_streams.specs.Reading.{Took}
use Rattle.byte_streams.specs.Faults.{AppendsPart, Rose}
use Rattle.picture_program.specs.declared.drawing.Refusal.{Refusal}
use Rattle.picture_program.specs.declared.words.Request.{Request}
use Rattle.picture_program.specs.Drawn.{IsPicture, IsRefused, refusal_line}
use Rattle.picture_program.specs.Words.{Asks}

-- the words ask for nothing that can be drawn
abbrev pub NamesNone : List (List ℕ) → Type 0
NamesNone words = (r : Request) → Asks words r → ⊥

-- the line that tells how the program is called
abbrev pub usage_text : List ℕ
usage_text = codes "usage: heap_picture N [M] [--around NODE K]\n"

-- the text is the picture that is asked for of the bytes, which are within the limit; or it is the line that says why
-- there is none
pub record PictureOf (most : ℕ) (input : List ℕ) (r : Request) (Put : List ℕ → Type 0) : Type 0 where
  pub text : List ℕ
  pub drawn : IsPicture most input r text
  pub put : Put text

pub record RefusalOf (most : ℕ) (input : List ℕ) (r : Request) (Put : List ℕ → Type 0) : Type 0 where
  pub refusal : Refusal
  pub refused : IsRefused most input r refusal
  pub put : Put (refusal_line refusal)

-- the words ask for a picture, the source was read, and that picture of what was taken was put
pub record PicturePut (most : ℕ) (words : List (List ℕ))
    (left rest : Option (List ℕ)) (Put : List ℕ → Type 0) : Type 0 where
  pub request : Request
  pub asks : Asks words request
  pub input : List ℕ
  pub took : Took most left rest input
  pub picture : PictureOf most input request Put

-- the same, and why there is none was put
pub record RefusalPut (most : ℕ) (words : List (List ℕ))
    (left rest : Option (List ℕ)) (Put : List ℕ → Type 0) : Type 0 where
  pub request : Request
  pub asks : Asks words request
  pub input : List ℕ
  pub took : Took most left rest input
  pub refusal : RefusalOf most input request Put

-- the words ask for nothing that can be drawn, and the text is the usage line
pub record UsagePut (words : List (List ℕ)) (Put : List ℕ → Type 0) : Type 0 where
  pub no_entry : NamesNone words
  pub put : Put usage_text

-- one of these texts was put
abbrev pub TextPut : ℕ → List (List ℕ) → Option (List ℕ) → Option (List ℕ) → (List ℕ → Type 0) → Type 0
TextPut most words left rest Put = UsagePut words Put
    ⊎ RefusalPut most words left rest Put ⊎ PicturePut most words left rest Put

-- how the program ends that was asked by these words: with the status, the bytes and the counts of faults that the top
-- call promises; only that memory may be wanting before the words are judged
pub record Ends (words : List (List ℕ)) (left rest : Option (List ℕ)) (read_before read_now : ℕ)
    (held after : Option (List ℕ)) (write_before write_now status : ℕ) : Type 0 where
  pub printed : status ≡ 0 → PicturePut 268435456 words left rest (Appends held after)
  pub usage : status ≡ 1 → UsagePut words (Appends held after)
  pub no_entry : NamesNone words → (status ≡ 1) ⊎ (status ≡ 4) ⊎ (status ≡ 5)
  pub untouched : NamesNone words → (rest ≡ left) × (read_now ≡ read_before)
  pub read : status ≡ 2 → Rose read_before read_now × Keeps held after
  pub refused : status ≡ 3 → RefusalPut 268435456 words left rest (Appends held after)
  pub write : status ≡ 4 → Rose write_before write_now
  pub part : status ≡ 4 → TextPut 268435456 words left rest (AppendsPart held after)
  pub memory : status ≡ 5 → Keeps held after
  pub known : status ≤ 5
