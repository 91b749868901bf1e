-- What stands in an output behind a text that was written, or that was to be.
use Rattle.std.specs.Prelude.{◌≡◌, ℕ, List, ◌++◌, Option, Result, IfOk, OnErr}
use Rattle.std.specs.Io.KnownBytes.{Appends}

-- a part of this text, from its start on, stands behind what was there
pub record AppendsPart (before after : Option (List ℕ)) (text : List ℕ) : Type 0 where
  pub part : List ℕ
  pub left : List ℕ
  pub text_is : text ≡ part ++ left
  pub appended : Appends before after part

-- this is told with a status: its text was written; or the output failed, a part of the text was written, from its start on, and the
-- status is 4
pub data IsTextWritten (Tells : ℕ → List ℕ → Type 0) (before after : Option (List ℕ)) (status : ℕ) : Type 0 where
  whole : (text : List ℕ) → Tells status text → Appends before after text → IsTextWritten Tells before after status
  part : (own : ℕ) (text : List ℕ) → Tells own text → AppendsPart before after text → status ≡ 4 → IsTextWritten Tells before after status

-- this is told with the status that is answered: its text was written; or the output failed, and a part of the text was written, from its
-- start on
pub record IsPut {E : Type 0} (Tells : ℕ → List ℕ → Type 0) (before after : Option (List ℕ)) (result : Result ℕ E) : Type 0 where
  pub replied : IfOk result (λ status. (text : List ℕ) × Tells status text × Appends before after text)
  pub untold : OnErr result ((status : ℕ) × (text : List ℕ) × Tells status text × AppendsPart before after text)
