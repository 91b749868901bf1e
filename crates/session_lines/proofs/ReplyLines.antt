-- A line that is written, with the status that belongs to it.
use Rattle.std.proofs.Common.{◌≡◌, ℕ, List, Option, Result, Ok, Err, sym, subst}
use Rattle.std.specs.Prelude.{IfOk, OnOk, OnErr}
use Rattle.std.specs.Io.KnownBytes.{Appends}
use Rattle.session_lines.specs.Parts.{AppendsPart, IsPut}
use Rattle.session_lines.proofs.PartLemmas.{on_err, on_err_by}

pub replied : {E : Type 0} (P : ℕ → List ℕ → Type 0) (A : List ℕ → Type 0) (r : Result ℕ E) (n : ℕ) (line : List ℕ) → IfOk r (λ status. status ≡ n)
    → OnOk r (A line) → P n line → IfOk r (λ status. (text : List ℕ) × P status text × A text)
replied P A (Ok status) n line same wrote it = (line, subst (λ m. P m line) (sym same) it, wrote)
replied P A (Err error) n line same wrote it = tt

pub replied_by : {E : Type 0} (P Q : ℕ → List ℕ → Type 0) (A : List ℕ → Type 0) (r : Result ℕ E)
    → ((status : ℕ) (text : List ℕ) → P status text → Q status text)
    → IfOk r (λ status. (text : List ℕ) × P status text × A text) → IfOk r (λ status. (text : List ℕ) × Q status text × A text)
replied_by P Q A (Ok status) leads h = (h.0, leads status h.0 h.1, h.2)
replied_by P Q A (Err error) leads h = tt

-- the same where the output failed, and a part of the line was written
pub untold : {E : Type 0} (P : ℕ → List ℕ → Type 0) (before after : Option (List ℕ)) (r : Result ℕ E) (n : ℕ) (line : List ℕ)
    → OnErr r (AppendsPart before after line) → P n line → OnErr r ((status : ℕ) × (text : List ℕ) × P status text × AppendsPart before after text)
untold P before after r n line part it = on_err_by r (λ of. (n, line, it, of)) part

pub untold_by : {E : Type 0} (P Q : ℕ → List ℕ → Type 0) (before after : Option (List ℕ)) (r : Result ℕ E)
    → ((status : ℕ) (text : List ℕ) → P status text → Q status text)
    → OnErr r ((status : ℕ) × (text : List ℕ) × P status text × AppendsPart before after text)
    → OnErr r ((status : ℕ) × (text : List ℕ) × Q status text × AppendsPart before after text)
untold_by P Q before after r leads h = on_err_by r (λ of. (of.0, of.1, leads of.0 of.1 of.2, of.3)) h

pub untold_at : {E : Type 0} (P : ℕ → List ℕ → Type 0) {before after : Option (List ℕ)} (r : Result ℕ E) (n : ℕ) (line : List ℕ) → P n line
    → AppendsPart before after line → OnErr r ((status : ℕ) × (text : List ℕ) × P status text × AppendsPart before after text)
untold_at P r n line it part = on_err r (n, line, it, part)

-- both at once
pub put_by : {E : Type 0} (P Q : ℕ → List ℕ → Type 0) {before after : Option (List ℕ)} (r : Result ℕ E)
    → ((status : ℕ) (text : List ℕ) → P status text → Q status text)
    → IfOk r (λ status. (text : List ℕ) × P status text × Appends before after text)
    → OnErr r ((status : ℕ) × (text : List ℕ) × P status text × AppendsPart before after text) → IsPut Q before after r
put_by P Q {before} {after} r leads whole part = record {
  replied = replied_by P Q (Appends before after) r leads whole;
  untold = untold_by P Q before after r leads part;
}
