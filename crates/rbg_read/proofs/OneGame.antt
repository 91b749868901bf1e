-- A text reads to one game at most, or has one fault at most, and not both.
use Rattle.std.proofs.Common.{◌≡◌, ◌≢◌, ◌≤◌, List, [], map, length, Option, Some, None, Result, Ok, Err, refl, sym, ap, ◌∙◌, subst, arith}
use Rattle.std.specs.Prelude.{IfErr}
use Rattle.rbg_text.specs.Token.{Text, Splits}
use Rattle.rbg_text.specs.Syntax.{Tokens, Section, text}
use Rattle.rbg_text.specs.Said.{Said, said_of}
use Rattle.rbg_text.specs.lemmas.Parse.{Outcome}
use Rattle.rbg_text.specs.NestingCount.{nesting}
use Rattle.rbg_text.proofs.Splits.{splits_once}
use Rattle.rbg_text.proofs.SectionsComplete.{sections_read}
use Rattle.rbg_text.proofs.SectionsDepth.{all_shallow}
use Rattle.rbg_game.specs.Games.{Game}
use Rattle.rbg_read.specs.Causes.{first_cause}
use Rattle.rbg_read.specs.Means.{Means}
use Rattle.rbg_read.specs.lemmas.Parts.{Parts, collected, known_of}
use Rattle.rbg_read.specs.lemmas.Flat.{flat_cause}
use Rattle.rbg_read.specs.lemmas.Build.{flat_game}
use Rattle.rbg_read.specs.Reads.{Parses, Reads, reads, Fault, too_long, stray_byte, nested, grammar, first}
use Rattle.rbg_read.specs.declared.fault.GameFault.{GameFault}
use Rattle.rbg_read.specs.declared.fault.GameFault.TheVariants as cause
use Rattle.rbg_read.proofs.TreeParts.{tree_parts, found, missing, causes_are, means_is}
use Rattle.rbg_read.proofs.Outcome.{wrong_first}

-- ---- trees with the same tokens

-- what a parser gave
given : Outcome (List Said) → List Said
given (Some p) = p.0
given None = []

same_said : (all others : List Section) → nesting (text all) ≤ 64 → text all ≡ text others → map said_of all ≡ map said_of others
unfolding given
same_said all others flat same =
    let one = sections_read all (length (text all)) [] (all_shallow all flat) (omega arith) in
    let two = sections_read others (length (text others)) [] (all_shallow others (subst (λ ts. nesting ts ≤ 64) same flat)) (omega arith) in
    let two_there = rw (← same) at two in
    ap given (sym one ∙ two_there)

-- ---- what the parts determine

found_cause : (all : List Section) (p : Parts) → collected (map said_of all) ≡ Some p → first_cause all ≡ flat_cause (known_of p) p
found_cause all p h =
    let tree = found all p h in
    causes_are all tree.sum tree.rules tree.sections ∙ ap (λ q. flat_cause (known_of q) q) (sym tree.parts)

lost_cause : (all : List Section) → collected (map said_of all) ≡ None → first_cause all ≡ Some cause.Section
lost_cause all h = wrong_first all (missing all h)

same_cause : (all others : List Section) → map said_of all ≡ map said_of others → first_cause all ≡ first_cause others
same_cause all others same = go (collected (map said_of all)) refl
  where
    go : (o : Option Parts) → collected (map said_of all) ≡ o → first_cause all ≡ first_cause others
    go (Some p) h = found_cause all p h ∙ sym (found_cause others p (sym (ap collected same) ∙ h))
    go None h = lost_cause all h ∙ sym (lost_cause others (sym (ap collected same) ∙ h))

-- a tree means one game
means_once : (all : List Section) (g h : Game) → Means all g → Means all h → g ≡ h
means_once all g h m n =
    let rules : g.rules ≡ h.rules = let both = m.rules ∙ sym n.rules in cc in
    λ i. record {
      pieces = (m.pieces ∙ sym n.pieces) i;
      variables = (m.variables ∙ sym n.variables) i;
      labels = (m.labels ∙ sym n.labels) i;
      vertices = (m.vertices ∙ sym n.vertices) i;
      rules = rules i;
    }

-- trees with the same parts mean the same
found_means : (all : List Section) (p : Parts) (g : Game) → collected (map said_of all) ≡ Some p → Means all g → g ≡ flat_game (known_of p) p
found_means all p g h m =
    let tree = found all p h in
    means_once all g (flat_game (known_of (tree_parts all tree.sum)) (tree_parts all tree.sum)) m (means_is all tree.sum tree.rules)
    ∙ ap (λ q. flat_game (known_of q) q) (sym tree.parts)

same_game : (all others : List Section) (g h : Game) → map said_of all ≡ map said_of others → first_cause all ≡ None → Means all g → Means others h → g ≡ h
same_game all others g h same fine m n = go (collected (map said_of all)) refl
  where
    go : (o : Option Parts) → collected (map said_of all) ≡ o → g ≡ h
    go (Some p) is = found_means all p g is m ∙ sym (found_means others p h (sym (ap collected same) ∙ is) n)
    go None is = let lost = lost_cause all is in absurd (cc)

-- ---- texts

same_tree : {bytes : Text} {ts us : Tokens} (all others : List Section) → nesting ts ≤ 64 → Splits bytes ts → Splits bytes us
    → ts ≡ text all → us ≡ text others → map said_of all ≡ map said_of others
same_tree {ts = ts} {us = us} all others flat p q spelled said =
    same_said all others (subst (λ t. nesting t ≤ 64) spelled flat) (sym spelled ∙ splits_once p q ∙ said)

pub one_game : (bytes : Text) (g h : Game) → Reads bytes g → Reads bytes h → g ≡ h
one_game bytes g h (reads {ts = ts} {all = all} short flat parses fine m) (reads {ts = us} {all = others} short2 flat2 parses2 fine2 n) =
    same_game all others g h (same_tree all others flat parses.splits parses2.splits parses.spelled parses2.spelled) fine m n

-- nor does its text mean another, whichever sections it parses to
pub one_meaning : (bytes : Text) (g h : Game) (us : Tokens) (others : List Section) → Reads bytes g → Parses bytes us others → Means others h → h ≡ g
one_meaning bytes g h us others (reads {ts = ts} {all = all} short flat parses fine m) parsed n =
    sym (same_game all others g h (same_tree all others flat parses.splits parsed.splits parses.spelled parsed.spelled) fine m n)

pub no_fault : (bytes : Text) (g : Game) (f : GameFault) → Reads bytes g → Fault bytes f → ⊥
no_fault bytes g f (reads short flat parses fine m) (too_long long) = absurd (omega arith)
no_fault bytes g f (reads {ts = ts} short flat parses fine m) (stray_byte short2 none) = none ts parses.splits
no_fault bytes g f (reads short flat parses fine m) (nested short2 splits deep) =
    let same = splits_once parses.splits splits in
    let flat2 = subst (λ t. nesting t ≤ 64) same flat in
    absurd (omega arith)
no_fault bytes g f (reads {all = all} short flat parses fine m) (grammar short2 splits flat2 none) = none all
    (splits_once splits parses.splits ∙ parses.spelled)
no_fault bytes g f (reads {all = all} short flat parses fine m) (first {all = others} short2 flat2 parses2 is) =
    let same = same_cause all others (same_tree all others flat parses.splits parses2.splits parses.spelled parses2.spelled) in
    absurd (cc)

-- two faults of one text are the same
pub one_fault : (bytes : Text) (c d : GameFault) → Fault bytes c → Fault bytes d → c ≡ d
one_fault bytes c d (too_long long) (too_long long2) = refl
one_fault bytes c d (too_long long) (stray_byte short none) = absurd (omega arith)
one_fault bytes c d (too_long long) (nested short splits deep) = refl
one_fault bytes c d (too_long long) (grammar short splits flat none) = absurd (omega arith)
one_fault bytes c d (too_long long) (first short flat parses is) = absurd (omega arith)
one_fault bytes c d (stray_byte short none) (too_long long) = absurd (omega arith)
one_fault bytes c d (stray_byte short none) (stray_byte short2 none2) = refl
one_fault bytes c d (stray_byte short none) (nested {ts = ts} short2 splits deep) = absurd (none ts splits)
one_fault bytes c d (stray_byte short none) (grammar short2 splits flat none2) = refl
one_fault bytes c d (stray_byte short none) (first {ts = ts} short2 flat parses is) = absurd (none ts parses.splits)
one_fault bytes c d (nested short splits deep) (too_long long) = refl
one_fault bytes c d (nested {ts = ts} short splits deep) (stray_byte short2 none) = absurd (none ts splits)
one_fault bytes c d (nested short splits deep) (nested short2 splits2 deep2) = refl
one_fault bytes c d (nested short splits deep) (grammar short2 splits2 flat none) =
    let flat2 = subst (λ t. nesting t ≤ 64) (splits_once splits2 splits) flat in absurd (omega arith)
one_fault bytes c d (nested short splits deep) (first short2 flat parses is) =
    let flat2 = subst (λ t. nesting t ≤ 64) (splits_once parses.splits splits) flat in absurd (omega arith)
one_fault bytes c d (grammar short splits flat none) (too_long long) = absurd (omega arith)
one_fault bytes c d (grammar short splits flat none) (stray_byte short2 none2) = refl
one_fault bytes c d (grammar short splits flat none) (nested short2 splits2 deep) =
    let flat2 = subst (λ t. nesting t ≤ 64) (splits_once splits splits2) flat in absurd (omega arith)
one_fault bytes c d (grammar short splits flat none) (grammar short2 splits2 flat2 none2) = refl
one_fault bytes c d (grammar short splits flat none) (first {all = all} short2 flat2 parses is) =
    absurd (none all (splits_once splits parses.splits ∙ parses.spelled))
one_fault bytes c d (first short flat parses is) (too_long long) = absurd (omega arith)
one_fault bytes c d (first {ts = ts} short flat parses is) (stray_byte short2 none) = absurd (none ts parses.splits)
one_fault bytes c d (first short flat parses is) (nested short2 splits deep) =
    let flat2 = subst (λ t. nesting t ≤ 64) (splits_once parses.splits splits) flat in absurd (omega arith)
one_fault bytes c d (first {all = all} short flat parses is) (grammar short2 splits flat2 none) =
    absurd (none all (splits_once splits parses.splits ∙ parses.spelled))
one_fault bytes c d (first {all = all} short flat parses is) (first {all = others} short2 flat2 parses2 is2) =
    let same = same_cause all others (same_tree all others flat parses.splits parses2.splits parses.spelled parses2.spelled) in
    let both : Some c ≡ Some d = sym is ∙ same ∙ is2 in
    cc

-- what is refused, but not for want of memory, does not read
pub refused_only : {X : Type 0} (bytes : Text) (r : Result X GameFault) → IfErr r (λ f. f ≢ cause.OutOfMemory → Fault bytes f) → (g : Game)
    → Reads bytes g → IfErr r (λ f. f ≡ cause.OutOfMemory)
refused_only bytes (Ok x) h g is = tt
refused_only bytes (Err cause.OutOfMemory) h g is = refl
refused_only bytes (Err f) h g is = absurd (no_fault bytes g f is (h (λ e. absurd (cc))))
