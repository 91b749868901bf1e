-- How deep an expression nests is at most the nesting of its tokens.
use Rattle.std.proofs.Common.{◌≡◌, ℕ, suc, ◌+◌, ◌-◌, ◌≤◌, ◌<◌, max, List, [], ◌∷◌, length, map, drop, get_or, drop-cons, add-one, refl, ap, arith}
use Rattle.rbg_text.specs.Syntax as grammar
use Rattle.rbg_text.specs.Syntax.{Tokens, Expr, sum_of, plus, minus, Term, product_of, times, Factor, positive, negative, Atom, literal, parenthesized, Assignment, Sum, Concat, Element, Base}
use Rattle.rbg_text.specs.NestingCount.{nesting_from, count_after}
use Rattle.rbg_text.specs.View.{token_view}
use Rattle.rbg_text.specs.declared.token.Token.{Token as CodeToken}
use Rattle.rbg_text.specs.lemmas.Postfix.{expr_depth, term_depth, factor_depth, atom_depth, assignments_depth, sum_depth, concat_depth}
use Rattle.rbg_text.specs.lemmas.Postfix.{element_depth, base_depth}
use Rattle.rbg_text.specs.declared.token.Sign.{Sign}
use Rattle.rbg_text.specs.declared.token.Sign.TheVariants.{Star, CloseParen, CloseBracket, CloseBrace}
use Rattle.rbg_game.specs.declared.rules.Comparison.{Comparison}
use Rattle.rbg_game.specs.declared.rules.Comparison.TheVariants as test
use Rattle.rbg_text.specs.Token.{Text}

-- the count within the tokens `here`, which go on with `rest`, gets at least so deep, and is back where it was before `rest`
pub record Nests (n depth : ℕ) (here rest : Tokens) : Type 0 where
  pub inside : n + depth ≤ nesting_from n here
  pub behind : nesting_from n rest ≤ nesting_from n here

pub at_least : (n : ℕ) (ts : Tokens) → n ≤ nesting_from n ts
at_least n [] = omega arith
at_least n (t ∷ ts) = omega arith

pub closed : (n : ℕ) (rest : Tokens) → nesting_from n rest ≤ nesting_from (n + 1) (grammar.mark CloseParen rest)
closed n rest = let back : n + 1 - 1 ≡ n = omega arith in omega (arith, ap (λ k. nesting_from k rest) back)

-- an operator and a further part
joined : {n a b : ℕ} {here mid rest : Tokens} {s : Sign} → Nests n a here (grammar.mark s mid)
    → nesting_from n (grammar.mark s mid) ≡ max n (nesting_from n mid)
    → Nests n b mid rest → Nests n (max a b) here rest
joined p e q = record { inside = omega (arith, p.inside, p.behind, q.inside, e); behind = omega (arith, p.behind, q.behind, e) }

mutual
  expr_nests : (e : Expr) (n : ℕ) (rest : Tokens) → Nests n (expr_depth e) (grammar.expr e rest) rest
  expr_nests (sum_of t) n rest = term_nests t n rest
  expr_nests (plus e t) n rest = joined (expr_nests e n _) refl (term_nests t n rest)
  expr_nests (minus e t) n rest = joined (expr_nests e n _) refl (term_nests t n rest)

  term_nests : (t : Term) (n : ℕ) (rest : Tokens) → Nests n (term_depth t) (grammar.term t rest) rest
  term_nests (product_of f) n rest = factor_nests f n rest
  term_nests (times t f) n rest = joined (term_nests t n _) refl (factor_nests f n rest)

  factor_nests : (f : Factor) (n : ℕ) (rest : Tokens) → Nests n (factor_depth f) (grammar.factor f rest) rest
  factor_nests (positive a) n rest = atom_nests a n rest
  factor_nests (negative a) n rest = let m = atom_nests a n rest in record { inside = omega (arith, m.inside); behind = omega (arith, m.behind) }

  atom_nests : (a : Atom) (n : ℕ) (rest : Tokens) → Nests n (atom_depth a) (grammar.atom a rest) rest
  atom_nests (literal w) n rest = record { inside = omega arith; behind = omega arith }
  atom_nests (Atom.variable w) n rest = record { inside = omega arith; behind = omega arith }
  atom_nests (parenthesized e) n rest =
      let m = expr_nests e (n + 1) (grammar.mark CloseParen rest) in
      record { inside = omega (arith, m.inside); behind = omega (arith, m.behind, closed n rest) }

-- ---- rules

-- a part that begins where another ends
pub next_to : {n a b : ℕ} {here mid rest : Tokens} → Nests n a here mid → Nests n b mid rest → Nests n (max a b) here rest
next_to p q = record { inside = omega (arith, p.inside, p.behind, q.inside); behind = omega (arith, p.behind, q.behind) }

pub closed_bracket : (n : ℕ) (rest : Tokens) → nesting_from n rest ≤ nesting_from (n + 1) (grammar.mark CloseBracket rest)
closed_bracket n rest = let back : n + 1 - 1 ≡ n = omega arith in omega (arith, ap (λ k. nesting_from k rest) back)

pub closed_brace : (n : ℕ) (rest : Tokens) → nesting_from n rest ≤ nesting_from (n + 1) (grammar.mark CloseBrace rest)
closed_brace n rest = let back : n + 1 - 1 ≡ n = omega arith in omega (arith, ap (λ k. nesting_from k rest) back)

-- a sign that is no bracket before a part, and after it
pub after_sign : {n d : ℕ} {here rest : Tokens} {s : Sign} → nesting_from n (grammar.mark s here) ≡ max n (nesting_from n here)
    → Nests n d here rest → Nests n d (grammar.mark s here) rest
after_sign e p = record { inside = omega (arith, p.inside, e); behind = omega (arith, p.behind, e) }

before_sign : {n d : ℕ} {here rest : Tokens} {s : Sign} → nesting_from n (grammar.mark s rest) ≡ max n (nesting_from n rest)
    → Nests n d here (grammar.mark s rest) → Nests n d here rest
before_sign e p = record { inside = p.inside; behind = omega (arith, p.behind, e) }

-- brackets round a part
pub bracketed : {n d : ℕ} {here end rest : Tokens} {s : Sign} → nesting_from n (grammar.mark s here) ≡ max n (nesting_from (n + 1) here)
    → nesting_from n rest ≤ nesting_from (n + 1) end → Nests (n + 1) d here end → Nests n (suc d) (grammar.mark s here) rest
bracketed e back p = record { inside = omega (arith, p.inside, e); behind = omega (arith, p.behind, back, e) }

pub names_nest : (ws : List Text) (n : ℕ) (rest : Tokens) → Nests n 0 (grammar.further grammar.word ws rest) rest
names_nest [] n rest = record { inside = omega (arith, at_least n rest); behind = omega arith }
names_nest (w ∷ ws) n rest = let m = names_nest ws n rest in record { inside = omega (arith, m.inside); behind = omega (arith, m.behind) }

set_nests : (ws : List Text) (n : ℕ) (rest : Tokens) → Nests n 0 (grammar.commas grammar.word ws rest) rest
set_nests [] n rest = record { inside = omega (arith, at_least n rest); behind = omega arith }
set_nests (w ∷ ws) n rest = let m = names_nest ws n rest in record { inside = omega (arith, m.inside); behind = omega (arith, m.behind) }

pub word_nests : (w : Text) (n : ℕ) (rest : Tokens) → Nests n 0 (grammar.word w rest) rest
word_nests w n rest = record { inside = omega arith; behind = omega arith }

assignment_nests : (a : Assignment) (n : ℕ) (rest : Tokens) → Nests n (expr_depth a.value) (grammar.assignment a rest) rest
assignment_nests a n rest = let m = expr_nests a.value n rest in record { inside = omega (arith, m.inside); behind = omega (arith, m.behind) }

assignments_nest : (more : List Assignment) (n : ℕ) (rest : Tokens) → Nests n (assignments_depth more) (grammar.further grammar.assignment more rest) rest
assignments_nest [] n rest = record { inside = omega (arith, at_least n rest); behind = omega arith }
assignments_nest (a ∷ more) n rest = after_sign refl (next_to (assignment_nests a n _) (assignments_nest more n rest))

compared_nest : (l r : Expr) (t : Comparison) (n : ℕ) (rest : Tokens)
    → Nests n (max (expr_depth l) (expr_depth r)) (grammar.expr l (grammar.mark (grammar.test_sign t) (grammar.expr r rest))) rest
compared_nest l r test.Equal n rest = joined (expr_nests l n _) refl (expr_nests r n rest)
compared_nest l r test.NotEqual n rest = joined (expr_nests l n _) refl (expr_nests r n rest)
compared_nest l r test.Less n rest = joined (expr_nests l n _) refl (expr_nests r n rest)
compared_nest l r test.LessEqual n rest = joined (expr_nests l n _) refl (expr_nests r n rest)
compared_nest l r test.Greater n rest = joined (expr_nests l n _) refl (expr_nests r n rest)
compared_nest l r test.GreaterEqual n rest = joined (expr_nests l n _) refl (expr_nests r n rest)

mutual
  pub sum_nests : (s : Sum) (n : ℕ) (rest : Tokens) → Nests n (sum_depth s) (grammar.sum s rest) rest
  sum_nests (grammar.branch c) n rest = concat_nests c n rest
  sum_nests (grammar.either s c) n rest = joined (sum_nests s n _) refl (concat_nests c n rest)

  concat_nests : (c : Concat) (n : ℕ) (rest : Tokens) → Nests n (concat_depth c) (grammar.concat c rest) rest
  concat_nests (grammar.single e) n rest = element_nests e n rest
  concat_nests (grammar.followed c e) n rest = next_to (concat_nests c n _) (element_nests e n rest)

  element_nests : (e : Element) (n : ℕ) (rest : Tokens) → Nests n (element_depth e) (grammar.element e rest) rest
  element_nests (grammar.once b) n rest = base_nests b n rest
  element_nests (grammar.star b) n rest = before_sign refl (base_nests b n (grammar.mark Star rest))

  base_nests : (b : Base) (n : ℕ) (rest : Tokens) → Nests n (base_depth b) (grammar.base b rest) rest
  base_nests (grammar.shift w) n rest = record { inside = omega arith; behind = omega arith }
  base_nests (grammar.on ws) n rest = bracketed refl (closed_brace n rest) (set_nests ws (n + 1) (grammar.mark CloseBrace rest))
  base_nests (grammar.off w) n rest = bracketed refl (closed_bracket n rest) (word_nests w (n + 1) (grammar.mark CloseBracket rest))
  base_nests (grammar.assign a more) n rest =
      bracketed refl (closed_bracket n rest)
      (after_sign refl (next_to (assignment_nests a (n + 1) _) (assignments_nest more (n + 1) (grammar.mark CloseBracket rest))))
  base_nests (grammar.compare l t r) n rest = bracketed refl (closed_brace n rest)
      (after_sign refl (compared_nest l r t (n + 1) (grammar.mark CloseBrace rest)))
  base_nests (grammar.switch w) n rest = record { inside = omega arith; behind = omega arith }
  base_nests grammar.keeper n rest = record { inside = omega arith; behind = omega arith }
  base_nests (grammar.some_word s) n rest = bracketed refl (closed_brace n rest) (after_sign refl (sum_nests s (n + 1) (grammar.mark CloseBrace rest)))
  base_nests (grammar.no_word s) n rest = bracketed refl (closed_brace n rest) (after_sign refl (sum_nests s (n + 1) (grammar.mark CloseBrace rest)))
  base_nests (grammar.group s) n rest = bracketed refl (closed n rest) (sum_nests s (n + 1) (grammar.mark CloseParen rest))

-- ---- the count, a token at a time

beyond : (whole g n m r x : ℕ) → whole ≡ max g (max n x) → n ≤ g → m ≤ x → r ≡ max g m → whole ≡ max r x
beyond whole g n m r x e le on is = omega arith

pub counted_on : (all : List CodeToken) (d : CodeToken) (i n g m r whole : ℕ) → i < length all → whole ≡ max g (nesting_from n (map token_view (drop i all)))
    → m ≡ count_after n (token_view (get_or all i d)) → n ≤ g → r ≡ max g m → whole ≡ max r (nesting_from m (map token_view (drop (i + 1) all)))
counted_on all d i n g m r whole lt e is le greatest =
    let cut : drop i all ≡ get_or all i d ∷ drop (i + 1) all = rw add-one (drop-cons all i d lt) in
    let on : whole ≡ max g (max n (nesting_from (count_after n (token_view (get_or all i d))) (map token_view (drop (i + 1) all)))) = rw cut at e in
    let on2 : whole ≡ max g (max n (nesting_from m (map token_view (drop (i + 1) all)))) = rw is on in
    beyond whole g n m r _ on2 le (at_least m _) greatest
