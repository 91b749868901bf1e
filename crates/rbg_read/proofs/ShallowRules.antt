-- The rules of a text are no deeper than its brackets nest, a few levels for each bracket.
use Rattle.std.proofs.Common.{◌≡◌, ℕ, ◌+◌, ◌*◌, ◌≤◌, List, [], ◌∷◌, map, fold, refl, subst, arith}
use Rattle.std.specs.List.{flat_map}
use Rattle.rbg_text.specs.Syntax as g
use Rattle.rbg_text.specs.Token.{Text}
use Rattle.rbg_text.specs.Syntax.{Section}
use Rattle.rbg_text.specs.NestingCount.{nesting}
use Rattle.rbg_text.specs.lemmas.Postfix.{expr_depth, term_depth, factor_depth, atom_depth, assignments_depth, sum_depth, concat_depth, element_depth, base_depth}
use Rattle.rbg_text.proofs.SectionsComplete.{AreShallow, with_section}
use Rattle.rbg_text.proofs.SectionsDepth.{all_shallow}
use Rattle.rbg_game.specs.Rules.{Regex, cat}
use Rattle.rbg_game.specs.Games.{Game}
use Rattle.rbg_read.specs.Means.{Names, names_of, expression, product_expression, factor_expression, atom_expression, assignment, sum_rules, concat_rules, element_rules, base_rules, rules_of}
use Rattle.rbg_read.specs.Reads.{Reads, reads}
use Rattle.rbg_read.specs.lemmas.Depths.{plain, sum_of, product_of, expression_depths, rules_depths, AreWithin}

module _ (names : Names) where
  -- ---- expressions

  mutual
    expr_shallow : (x : g.Expr) → AreWithin (expression_depths (expression names x)) (sum_of (4 * expr_depth x + 4))
    expr_shallow (g.sum_of t) =
        let p = term_shallow t in record { whole = omega (arith, p.whole); terms = omega (arith, p.terms); factors = omega (arith, p.factors) }
    expr_shallow (g.plus x t) =
        let p = expr_shallow x in
        let q = term_shallow t in
        record { whole = omega (arith, p.terms, q.whole); terms = omega (arith, p.terms, q.whole); factors = omega (arith, p.terms, q.whole) }
    expr_shallow (g.minus x t) =
        let p = expr_shallow x in
        let q = term_shallow t in
        record { whole = omega (arith, p.terms, q.whole); terms = omega (arith, p.terms, q.whole); factors = omega (arith, p.terms, q.whole) }

    term_shallow : (x : g.Term) → AreWithin (expression_depths (product_expression names x)) (product_of (4 * term_depth x + 2))
    term_shallow (g.product_of f) =
        let p = factor_shallow f in record { whole = omega (arith, p.whole); terms = omega (arith, p.terms); factors = omega (arith, p.factors) }
    term_shallow (g.times t f) =
        let p = term_shallow t in
        let q = factor_shallow f in
        record { whole = omega (arith, p.factors, q.whole); terms = omega (arith, p.factors, q.whole); factors = omega (arith, p.factors, q.whole) }

    factor_shallow : (x : g.Factor) → AreWithin (expression_depths (factor_expression names x)) (plain (4 * factor_depth x + 2))
    factor_shallow (g.positive a) =
        let p = atom_shallow a in record { whole = omega (arith, p.whole); terms = omega (arith, p.terms); factors = omega (arith, p.factors) }
    factor_shallow (g.negative a) =
        let p = atom_shallow a in record { whole = omega (arith, p.whole); terms = omega (arith, p.whole); factors = omega (arith, p.whole) }

    atom_shallow : (x : g.Atom) → AreWithin (expression_depths (atom_expression names x)) (plain (4 * atom_depth x + 1))
    atom_shallow (g.literal n) = record { whole = omega arith; terms = omega arith; factors = omega arith }
    atom_shallow (g.variable v) = record { whole = omega arith; terms = omega arith; factors = omega arith }
    atom_shallow (g.parenthesized x) =
        let p = expr_shallow x in record { whole = omega (arith, p.whole); terms = omega (arith, p.terms); factors = omega (arith, p.factors) }

  -- ---- rules

  one_assignment : (a : g.Assignment) → AreWithin (rules_depths (assignment names a)) (plain (4 * expr_depth a.value + 6))
  one_assignment a =
      let p = expr_shallow a.value in record { whole = omega (arith, p.whole); terms = omega (arith, p.whole); factors = omega (arith, p.whole) }

  more_assignments : (r : Regex) (more : List g.Assignment) (n : ℕ) → 4 * assignments_depth more + 6 ≤ n → AreWithin (rules_depths r) (product_of n)
      → AreWithin (rules_depths (fold cat r (map (assignment names) more))) (product_of n)
  more_assignments r [] n deep h = h
  more_assignments r (a ∷ more) n deep h =
      let p = one_assignment a in
      more_assignments (cat r (assignment names a)) more n (omega arith)
      (record { whole = omega (arith, p.whole, h.factors); terms = omega (arith, p.whole, h.factors); factors = omega (arith, p.whole, h.factors) })

  mutual
    sum_shallow : (x : g.Sum) → AreWithin (rules_depths (sum_rules names x)) (sum_of (4 * sum_depth x + 5))
    sum_shallow (g.branch c) =
        let p = concat_shallow c in record { whole = omega (arith, p.whole); terms = omega (arith, p.terms); factors = omega (arith, p.factors) }
    sum_shallow (g.either s c) =
        let p = sum_shallow s in
        let q = concat_shallow c in
        record { whole = omega (arith, p.terms, q.whole); terms = omega (arith, p.terms, q.whole); factors = omega (arith, p.terms, q.whole) }

    concat_shallow : (x : g.Concat) → AreWithin (rules_depths (concat_rules names x)) (product_of (4 * concat_depth x + 4))
    concat_shallow (g.single b) =
        let p = element_shallow b in record { whole = omega (arith, p.whole); terms = omega (arith, p.terms); factors = omega (arith, p.factors) }
    concat_shallow (g.followed c b) =
        let p = concat_shallow c in
        let q = element_shallow b in
        record { whole = omega (arith, p.factors, q.whole); terms = omega (arith, p.factors, q.whole); factors = omega (arith, p.factors, q.whole) }

    element_shallow : (x : g.Element) → AreWithin (rules_depths (element_rules names x)) (plain (4 * element_depth x + 4))
    element_shallow (g.once b) =
        let p = base_shallow b in record { whole = omega (arith, p.whole); terms = omega (arith, p.terms); factors = omega (arith, p.factors) }
    element_shallow (g.star b) =
        let p = base_shallow b in record { whole = omega (arith, p.whole); terms = omega (arith, p.whole); factors = omega (arith, p.whole) }

    base_shallow : (x : g.Base) → AreWithin (rules_depths (base_rules names x)) (plain (4 * base_depth x + 3))
    base_shallow (g.shift w) = record { whole = omega arith; terms = omega arith; factors = omega arith }
    base_shallow (g.on ws) = record { whole = omega arith; terms = omega arith; factors = omega arith }
    base_shallow (g.off w) = record { whole = omega arith; terms = omega arith; factors = omega arith }
    base_shallow (g.assign a more) =
        let n : ℕ = 4 * assignments_depth (a ∷ more) + 6 in
        let p = one_assignment a in
        let q = more_assignments (assignment names a) more n (omega arith)
        (record { whole = omega (arith, p.whole); terms = omega (arith, p.terms); factors = omega (arith, p.factors) }) in
        record { whole = omega (arith, q.whole); terms = omega (arith, q.terms); factors = omega (arith, q.factors) }
    base_shallow (g.compare l t r) =
        let p = expr_shallow l in
        let q = expr_shallow r in
        record { whole = omega (arith, p.whole, q.whole); terms = omega (arith, p.whole, q.whole); factors = omega (arith, p.whole, q.whole) }
    base_shallow (g.switch w) = record { whole = omega arith; terms = omega arith; factors = omega arith }
    base_shallow g.keeper = record { whole = omega arith; terms = omega arith; factors = omega arith }
    base_shallow (g.some_word s) =
        let p = sum_shallow s in record { whole = omega (arith, p.whole); terms = omega (arith, p.whole); factors = omega (arith, p.whole) }
    base_shallow (g.no_word s) =
        let p = sum_shallow s in record { whole = omega (arith, p.whole); terms = omega (arith, p.whole); factors = omega (arith, p.whole) }
    base_shallow (g.group s) =
        let p = sum_shallow s in record { whole = omega (arith, p.whole); terms = omega (arith, p.terms); factors = omega (arith, p.factors) }

-- ---- a whole text

first_rules : (all : List Section) → AreShallow all → (s : g.Sum) (more : List g.Sum) → flat_map rules_of all ≡ s ∷ more → sum_depth s ≤ 64
first_rules [] none s more is = absurd (cc)
first_rules (g.players head others ∷ rest) (with_section h shallow) s more is = first_rules rest shallow s more is
first_rules (g.pieces head others ∷ rest) (with_section h shallow) s more is = first_rules rest shallow s more is
first_rules (g.variables declarations ∷ rest) (with_section h shallow) s more is = first_rules rest shallow s more is
first_rules (g.board head others ∷ rest) (with_section h shallow) s more is = first_rules rest shallow s more is
first_rules (g.rules t ∷ rest) (with_section h shallow) s more is =
    let same : t ≡ s = cc in subst (λ x. sum_depth x ≤ 64) same (omega (arith, h))

only_rules : (names : Names) (rules : Regex) (sums : List g.Sum) → ((s : g.Sum) (more : List g.Sum) → sums ≡ s ∷ more → sum_depth s ≤ 64)
    → rules ∷ [] ≡ map (sum_rules names) sums → (rules_depths rules).whole ≤ 262
only_rules names rules [] deep is = absurd (cc)
only_rules names rules (s ∷ more) deep is =
    let same : sum_rules names s ≡ rules = cc in
    let p = sum_shallow names s in
    subst (λ x. (rules_depths x).whole ≤ 262) same (omega (arith, p.whole, deep s more refl))

pub read_shallow : (bytes : Text) (game : Game) → Reads bytes game → (rules_depths game.rules).whole ≤ 262
read_shallow bytes game (reads {ts = ts} {all = all} short flat parses fine means) =
    let nests = subst (λ t. nesting t ≤ 64) parses.spelled flat in
    only_rules (names_of all) game.rules (flat_map rules_of all) (first_rules all (all_shallow all nests)) means.rules
