-- What a text reads to, or why it does not, from what each step of the reading found.
use Rattle.std.proofs.Common.{◌≡◌, ◌≢◌, ◌≤◌, true, List, map, Some, None, Result, Ok, Err, sym, ap, ◌∙◌, subst, refl}
use Rattle.std.specs.Prelude.{length, IfErr}
use Rattle.std.specs.Result.{IsErr, IsErrAnd}
use Rattle.rbg_text.specs.Token.{Text, Splits}
use Rattle.rbg_text.specs.Syntax as g
use Rattle.rbg_text.specs.Syntax.{Tokens, Section}
use Rattle.rbg_text.specs.Said.{Said, said_of}
use Rattle.rbg_text.specs.NestingCount.{nesting}
use Rattle.rbg_text.specs.declared.fault.ReadError.{ReadError}
use Rattle.rbg_text.specs.declared.fault.ReadError.TheVariants.{Memory, Syntax}
use Rattle.rbg_game.specs.Games.{Game}
use Rattle.rbg_read.specs.Causes.{has_wrong_sections, first_cause}
use Rattle.rbg_read.specs.Means.{Means}
use Rattle.rbg_read.specs.lemmas.Parts.{Parts, Known, collected, known_of}
use Rattle.rbg_read.specs.lemmas.Flat.{flat_cause}
use Rattle.rbg_read.specs.lemmas.Build.{flat_game}
use Rattle.rbg_read.specs.ReadFaults.{fault_of}
use Rattle.rbg_read.specs.Reads.{Reads, reads, Fault, first}
use Rattle.rbg_read.specs.declared.fault.GameFault.{GameFault}
use Rattle.rbg_read.specs.declared.fault.GameFault.TheVariants as cause
use Rattle.rbg_read.proofs.TreeParts.{tree_parts, found, missing, causes_are, means_is}

-- a fault of the tokens or of the grammar, passed on
pub passed_on : {X : Type 0} (text : Text) (r : Result X GameFault) (e : ReadError) → IsErr r × IsErrAnd r (λ f. f ≡ fault_of e)
    → (e ≡ Syntax → Fault text cause.Syntax) → IfErr r (λ f. f ≢ cause.OutOfMemory → Fault text f)
passed_on text (Ok x) e h syntax = tt
passed_on text (Err f) Memory h syntax = λ no. absurd (no h.1)
passed_on text (Err f) Syntax h syntax = λ no. subst (Fault text) (sym h.1) (syntax refl)

-- a fault of the parts, passed on
pub kept_on : {X : Type 0} (text : Text) (r : Result X GameFault) (e : GameFault) → IsErr r × IsErrAnd r (λ f. f ≡ e)
    → (e ≢ cause.OutOfMemory → Fault text e) → IfErr r (λ f. f ≢ cause.OutOfMemory → Fault text f)
kept_on text (Ok x) e h fault = tt
kept_on text (Err f) e h fault = λ no. subst (Fault text) (sym h.1) (fault (λ is. no (h.1 ∙ is)))

-- the first of the causes, with a section twice or missing
pub wrong_first : (all : List Section) → has_wrong_sections all ≡ true → first_cause all ≡ Some cause.Section
wrong_first all h = rw h refl

module _ (text : Text) (ts : Tokens) (all : List Section) (saids : List Said) (short : length text ≤ 65536) (flat : nesting ts ≤ 64)
    (splits : Splits text ts) (spelled : ts ≡ g.text all) (said : saids ≡ map said_of all) where
  pub lacks : collected saids ≡ None → Fault text cause.Section
  lacks h =
      first {ts = ts} {all = all} short flat (record { splits = splits; spelled = spelled }) (wrong_first all (missing all (sym (ap collected said) ∙ h)))

  -- the causes against the parts are those against the tree
  same_cause : (p : Parts) (known : Known) → collected saids ≡ Some p → known ≡ known_of p → first_cause all ≡ flat_cause known p
  same_cause p known h named =
      let tree = found all p (sym (ap collected said) ∙ h) in
      causes_are all tree.sum tree.rules tree.sections ∙ ap (λ q. flat_cause (known_of q) q) (sym tree.parts) ∙ ap (λ k. flat_cause k p) (sym named)

  pub refused : (p : Parts) (known : Known) (f : GameFault) → collected saids ≡ Some p → known ≡ known_of p → flat_cause known p ≡ Some f → Fault text f
  refused p known f h named is =
      first {ts = ts} {all = all} short flat (record { splits = splits; spelled = spelled }) (same_cause p known h named ∙ is)

  pub read : (p : Parts) (known : Known) (game : Game) → collected saids ≡ Some p → known ≡ known_of p → flat_cause known p ≡ None
      → game ≡ flat_game known p → Reads text game
  read p known game h named none is =
      let tree = found all p (sym (ap collected said) ∙ h) in
      let same : flat_game (known_of (tree_parts all tree.sum)) (tree_parts all tree.sum) ≡ game =
      ap (λ q. flat_game (known_of q) q) (sym tree.parts) ∙ ap (λ k. flat_game k p) (sym named) ∙ sym is in
      reads {ts = ts} {all = all} short flat (record { splits = splits; spelled = spelled }) (same_cause p known h named ∙ none)
      (subst (Means all) same (means_is all tree.sum tree.rules))
