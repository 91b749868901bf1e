-- The rules of a text nest no deeper than its tokens.
use Rattle.std.proofs.Common.{◌≡◌, ℕ, ◌+◌, ◌≤◌, List, [], ◌∷◌, refl, arith}
use Rattle.rbg_text.specs.Token.{Text}
use Rattle.rbg_text.specs.Syntax as grammar
use Rattle.rbg_text.specs.Syntax.{Tokens, Declaration, WrittenArrow, WrittenVertex, Further, after_comma, at_once, Section}
use Rattle.rbg_text.specs.NestingCount.{nesting_from}
use Rattle.rbg_text.specs.lemmas.Postfix.{sum_depth}
use Rattle.rbg_text.specs.declared.token.Sign.TheVariants.{CloseParen, OpenBracket, CloseBracket, OpenBrace, CloseBrace}
use Rattle.rbg_text.proofs.NestingLemmas.{Nests, at_least, closed, closed_bracket, closed_brace, next_to, after_sign, bracketed, word_nests, sum_nests}
use Rattle.rbg_text.proofs.SectionsComplete.{IsShallow, AreShallow, no_section, with_section}

-- brackets are closed again
abbrev IsClosed : {X : Type 0} → (X → Tokens → Tokens) → Type 0
IsClosed {X = X} said = (x : X) (n : ℕ) (rest : Tokens) → Nests n 0 (said x rest) rest

closed_within : {n d : ℕ} {here rest : Tokens} → Nests n d here rest → Nests n 0 here rest
closed_within p = record { inside = omega (arith, p.inside); behind = p.behind }

further_closed : {X : Type 0} (said : X → Tokens → Tokens) → IsClosed said → (xs : List X) (n : ℕ) (rest : Tokens)
    → Nests n 0 (grammar.further said xs rest) rest
further_closed said each [] n rest = record { inside = omega (arith, at_least n rest); behind = omega arith }
further_closed said each (x ∷ xs) n rest = after_sign refl (next_to (each x n _) (further_closed said each xs n rest))

commas_closed : {X : Type 0} (said : X → Tokens → Tokens) → IsClosed said → (xs : List X) (n : ℕ) (rest : Tokens) → Nests n 0 (grammar.commas said xs rest) rest
commas_closed said each [] n rest = record { inside = omega (arith, at_least n rest); behind = omega arith }
commas_closed said each (x ∷ xs) n rest = next_to (each x n _) (further_closed said each xs n rest)

declaration_closed : IsClosed grammar.declaration
declaration_closed d n rest = record { inside = omega arith; behind = omega (arith, closed n rest) }

arrow_closed : IsClosed grammar.arrow
arrow_closed a n rest = record { inside = omega arith; behind = omega arith }

vertex_closed : IsClosed grammar.vertex
vertex_closed v n rest =
    let arrows = grammar.commas grammar.arrow v.arrows (grammar.mark CloseBrace rest) in
    let behind = grammar.mark OpenBrace arrows in
    let braces : Nests n 1 behind rest = bracketed {s = OpenBrace} refl (closed_brace n rest)
    (commas_closed grammar.arrow arrow_closed v.arrows (n + 1) (grammar.mark CloseBrace rest)) in
    let piece : Nests n 1 (grammar.mark OpenBracket (grammar.word v.piece (grammar.mark CloseBracket behind))) behind =
    bracketed {s = OpenBracket} refl (closed_bracket n behind) (word_nests v.piece (n + 1) (grammar.mark CloseBracket behind)) in
    closed_within (next_to (word_nests v.name n _) (next_to piece braces))

vertices_closed : (more : List Further) (n : ℕ) (rest : Tokens) → Nests n 0 (grammar.further_vertices more rest) rest
vertices_closed [] n rest = record { inside = omega (arith, at_least n rest); behind = omega arith }
vertices_closed (after_comma v ∷ more) n rest = after_sign refl (next_to (vertex_closed v n _) (vertices_closed more n rest))
vertices_closed (at_once v ∷ more) n rest = next_to (vertex_closed v n _) (vertices_closed more n rest)

-- how deep the rules of a section nest
section_depth : Section → ℕ
section_depth (grammar.rules s) = sum_depth s
section_depth _ = 0

headed_nests : (title : Text) (d : ℕ) (here : Tokens) (n : ℕ) (rest : Tokens) → Nests n d here rest → Nests n d (grammar.headed title here) rest
headed_nests title d here n rest p = record { inside = omega (arith, p.inside); behind = omega (arith, p.behind) }

section_nests : (s : Section) (n : ℕ) (rest : Tokens) → Nests n (section_depth s) (grammar.section s rest) rest
unfolding section_depth
section_nests (grammar.players head more) n rest = headed_nests _ 0 _ n rest (commas_closed grammar.declaration declaration_closed (head ∷ more) n rest)
section_nests (grammar.pieces head more) n rest = headed_nests _ 0 _ n rest (commas_closed grammar.word word_nests (head ∷ more) n rest)
section_nests (grammar.variables all) n rest = headed_nests _ 0 _ n rest (commas_closed grammar.declaration declaration_closed all n rest)
section_nests (grammar.board head more) n rest = headed_nests _ 0 _ n rest (next_to (vertex_closed head n _) (vertices_closed more n rest))
section_nests (grammar.rules s) n rest = headed_nests _ (sum_depth s) _ n rest (sum_nests s n rest)

shallow_section : (s : Section) → section_depth s ≤ 64 → IsShallow s
unfolding section_depth
shallow_section (grammar.players head more) le = tt
shallow_section (grammar.pieces head more) le = tt
shallow_section (grammar.variables all) le = tt
shallow_section (grammar.board head more) le = tt
shallow_section (grammar.rules s) le = omega (arith, le)

-- where the tokens nest within the limit, so do the rules of each section
pub all_shallow : (all : List Section) → nesting_from 0 (grammar.text all) ≤ 64 → AreShallow all
all_shallow [] le = no_section
all_shallow (s ∷ rest) le =
    let m = section_nests s 0 (grammar.text rest) in
    with_section (shallow_section s (omega (arith, m.inside, le))) (all_shallow rest (omega (arith, m.behind, le)))
