-- The sections that tokens spell are read, and nothing else.
use Rattle.std.proofs.Common.{◌≡◌, ℕ, ◌≤◌, List, [], map, length, Some, None, ◌∙◌, sym, refl, arith}
use Rattle.std.specs.Prelude.{Result, Ok, Err, IfOk}
use Rattle.rbg_text.specs.Syntax as grammar
use Rattle.rbg_text.specs.Syntax.{Tokens, Section}
use Rattle.rbg_text.specs.NestingCount.{nesting}
use Rattle.rbg_text.specs.Parse.{ParseState}
use Rattle.rbg_text.specs.lemmas.Parse.{ReadsAs, turns}
use Rattle.rbg_text.specs.lemmas.ParseSections.{sections}
use Rattle.rbg_text.specs.Said.{Said, said_of}
use Rattle.rbg_text.specs.declared.fault.ReadError.{ReadError}
use Rattle.rbg_text.specs.declared.fault.ReadError.TheVariants.{Memory, Syntax}
use Rattle.rbg_text.proofs.ExpressionsComplete.{state}
use Rattle.rbg_text.proofs.SectionsSound.{sections_say}
use Rattle.rbg_text.proofs.SectionsComplete.{sections_read}
use Rattle.rbg_text.proofs.SectionsDepth.{all_shallow}

-- sections that the parser gives spell the tokens
pub spelled : (ts : Tokens) (saids : List Said) (j : ParseState) → sections (length ts) [] (state ts []) ≡ Some (saids, j)
    → (all : List Section) × (ts ≡ grammar.text all) × (saids ≡ map said_of all)
spelled ts saids j e = let all = sections_say (length ts) [] (state ts []) j saids refl e in (all.more, all.tokens, all.is)

-- tokens that the parser refuses are spelled by no sections
pub unspelled : (ts : Tokens) → nesting ts ≤ 64 → sections (length ts) [] (state ts []) ≡ None → (all : List Section) → ts ≡ grammar.text all → ⊥
unspelled ts flat refused all is =
    let off : sections (length (grammar.text all)) [] (state (grammar.text all) []) ≡ None = rw is at refused in
    let shallow : nesting (grammar.text all) ≤ 64 = rw is at flat in
    let on = sections_read all (length (grammar.text all)) [] (all_shallow all shallow) (omega arith) in
    absurd (cc (off, on))

module _ {X : Type 0} (view : X → List Said) (ts : Tokens) (s j : ParseState) (begun : s ≡ state ts []) where
  pub found : (r : Result X ReadError) → ReadsAs view (sections (turns s) [] s) r j
      → IfOk r (λ x. (all : List Section) × (ts ≡ grammar.text all) × (view x ≡ map said_of all))
  found (Ok x) h =
      let e : sections (length ts) [] (state ts []) ≡ Some (view x, j) = rw begun at h in
      spelled ts (view x) j e
  found (Err e) h = tt

  refused : (r : Result X ReadError) → r ≡ Err Syntax → ReadsAs view (sections (turns s) [] s) r j → sections (turns s) [] s ≡ None
  refused r is h = rw is at h

  pub none : (r : Result X ReadError) → ReadsAs view (sections (turns s) [] s) r j → r ≡ Err Syntax → nesting ts ≤ 64 → (all : List Section)
      → ts ≡ grammar.text all → ⊥
  none r h is deep all same =
      let off : sections (length ts) [] (state ts []) ≡ None = rw begun at (refused r is h) in
      unspelled ts deep off all same
