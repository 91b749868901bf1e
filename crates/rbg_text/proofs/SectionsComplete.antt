-- The parser of sections reads the sections of the grammar.
use Rattle.std.proofs.Common.{◌≡◌, ℕ, zero, suc, ◌+◌, ◌≤◌, ◌<◌, true, false, List, [], ◌∷◌, ◌++◌, map, length, Some, ◌∙◌, sym, refl, ap, arith, append_assoc, append-nil}
use Rattle.std.specs.Prelude.{codes}
use Rattle.std.specs.Str.{bytes_eq}
use Rattle.rbg_text.specs.Token.{Text, Token}
use Rattle.rbg_text.specs.Syntax as grammar
use Rattle.rbg_text.specs.Syntax.{Tokens, Declaration, WrittenArrow, WrittenVertex, Further, after_comma, at_once, Section}
use Rattle.rbg_text.specs.NestingCount.{nesting_from}
use Rattle.rbg_text.specs.Parse.{ParseStep}
use Rattle.rbg_text.specs.lemmas.Parse.{Parser, first, same_sign, sees, advance, after, expect, name, begins_element, rules_to}
use Rattle.rbg_text.specs.Said.{Said, further_vertex, said_of}
use Rattle.rbg_text.specs.lemmas.ParseSections.{items, listed, number, declaration, arrow, arrows, vertex, is_name, vertices, all_vertices}
use Rattle.rbg_text.specs.lemmas.ParseSections.{all_variables, all_rules, section_by, section, is_done, sections}
use Rattle.rbg_text.specs.Postfix.{sum_onto}
use Rattle.rbg_text.specs.lemmas.Postfix.{sum_depth}
use Rattle.rbg_text.specs.declared.token.Sign.{Sign}
use Rattle.rbg_text.specs.declared.token.Sign.TheVariants.{Hash, Comma, Colon, Equal, OpenParen, CloseParen, OpenBracket, CloseBracket, OpenBrace, CloseBrace, Star, Plus}
use Rattle.rbg_text.proofs.ExpressionsComplete.{state, Not, not_sign}
use Rattle.rbg_text.proofs.RulesComplete.{sum_len, rules_read}

-- the item is read, whatever follows
abbrev ReadsItem : {X : Type 0} → Parser X → (X → Tokens → Tokens) → Type 0
ReadsItem {X = X} item said = (x : X) (rest : Tokens) (out : List ParseStep) → item (state (said x rest) out) ≡ Some (x, state rest out)

abbrev TakesTokens : {X : Type 0} → (X → Tokens → Tokens) → Type 0
TakesTokens {X = X} said = (x : X) (rest : Tokens) → length rest < length (said x rest)

module _ {X : Type 0} (item : Parser X) (said : X → Tokens → Tokens) (reads : ReadsItem item said) (takes : TakesTokens said) where
  items_stop : (n : ℕ) (xs : List X) (rest : Tokens) (out : List ParseStep) → Not Comma rest → items item n xs (state rest out) ≡ Some (xs, state rest out)
  unfolding items after
  items_stop zero xs rest out stop = refl
  items_stop (suc n) xs rest out stop = rw (stop out) refl

  further_len : (more : List X) (rest : Tokens) → length rest ≤ length (grammar.further said more rest)
  further_len [] rest = omega arith
  further_len (x ∷ more) rest = omega (arith, further_len more rest, takes x (grammar.further said more rest))

  items_read : (more : List X) (n : ℕ) (xs : List X) (rest : Tokens) (out : List ParseStep) → length (grammar.further said more rest) ≤ n → Not Comma rest
      → items item n xs (state (grammar.further said more rest) out) ≡ Some (xs ++ more, state rest out)
  unfolding items after sees same_sign advance
  items_read [] n xs rest out enough stop = rw append-nil (items_stop n xs rest out stop)
  items_read (x ∷ more) zero xs rest out enough stop = absurd (omega (arith, enough))
  items_read (x ∷ more) (suc n) xs rest out enough stop =
      let one = reads x (grammar.further said more rest) out in
      let le : length (grammar.further said more rest) ≤ n = omega (arith, enough, takes x (grammar.further said more rest)) in
      rw one (items_read more n (xs ++ x ∷ []) rest out le stop ∙ ap (λ ys. Some (ys, state rest out)) (append_assoc xs (x ∷ []) more))

  listed_read : (x : X) (more : List X) (rest : Tokens) (out : List ParseStep) → Not Comma rest
      → listed item (state (said x (grammar.further said more rest)) out) ≡ Some (x ∷ more, state rest out)
  unfolding listed
  listed_read x more rest out stop =
      let one = reads x (grammar.further said more rest) out in
      rw one (items_read more (length (grammar.further said more rest)) (x ∷ []) rest out (omega arith) stop)

name_reads : ReadsItem name grammar.word
unfolding name advance
name_reads w rest out = refl

name_takes : TakesTokens grammar.word
name_takes w rest = omega arith

declaration_reads : ReadsItem declaration grammar.declaration
unfolding declaration name number expect sees same_sign advance
declaration_reads d rest out = refl

declaration_takes : TakesTokens grammar.declaration
declaration_takes d rest = omega arith

arrow_reads : ReadsItem arrow grammar.arrow
unfolding arrow name expect sees same_sign advance
arrow_reads a rest out = refl

arrow_takes : TakesTokens grammar.arrow
arrow_takes a rest = omega arith

arrows_read : (all : List WrittenArrow) (rest : Tokens) (out : List ParseStep)
    → arrows (state (grammar.commas grammar.arrow all (grammar.mark CloseBrace rest)) out) ≡ Some (all, state (grammar.mark CloseBrace rest) out)
unfolding arrows sees same_sign
arrows_read [] rest out = refl
arrows_read (a ∷ more) rest out = listed_read arrow grammar.arrow arrow_reads arrow_takes a more (grammar.mark CloseBrace rest) out
    (not_sign Comma CloseBrace rest refl)

vertex_reads : ReadsItem vertex grammar.vertex
unfolding vertex name expect sees same_sign advance
vertex_reads v rest out = rw (arrows_read v.arrows rest out) refl

commas_len : (all : List WrittenArrow) (rest : Tokens) → length rest ≤ length (grammar.commas grammar.arrow all rest)
commas_len [] rest = omega arith
commas_len (a ∷ more) rest = omega (arith, further_len arrow grammar.arrow arrow_reads arrow_takes more rest)

vertex_takes : TakesTokens grammar.vertex
vertex_takes v rest = omega (arith, commas_len v.arrows (grammar.mark CloseBrace rest))

vertices_stop : (n : ℕ) (xs : List WrittenVertex) (rest : Tokens) (out : List ParseStep) → Not Comma rest → is_name (first rest) ≡ false
    → vertices n xs (state rest out) ≡ Some (xs, state rest out)
unfolding vertices after
vertices_stop zero xs rest out stop other = refl
vertices_stop (suc n) xs rest out stop other = rw (stop out, other) refl

vertices_len : (more : List Further) (rest : Tokens) → length rest ≤ length (grammar.further_vertices more rest)
vertices_len [] rest = omega arith
vertices_len (after_comma v ∷ more) rest = omega (arith, vertices_len more rest, vertex_takes v (grammar.further_vertices more rest))
vertices_len (at_once v ∷ more) rest = omega (arith, vertices_len more rest, vertex_takes v (grammar.further_vertices more rest))

vertices_read : (more : List Further) (n : ℕ) (xs : List WrittenVertex) (rest : Tokens) (out : List ParseStep)
    → length (grammar.further_vertices more rest) ≤ n → Not Comma rest → is_name (first rest) ≡ false
    → vertices n xs (state (grammar.further_vertices more rest) out) ≡ Some (xs ++ map further_vertex more, state rest out)
unfolding vertices after sees same_sign advance
vertices_read [] n xs rest out enough stop other = rw append-nil (vertices_stop n xs rest out stop other)
vertices_read (after_comma v ∷ more) zero xs rest out enough stop other = absurd (omega (arith, enough))
vertices_read (at_once v ∷ more) zero xs rest out enough stop other = absurd (omega (arith, enough, vertex_takes v (grammar.further_vertices more rest)))
vertices_read (after_comma v ∷ more) (suc n) xs rest out enough stop other =
    let one = vertex_reads v (grammar.further_vertices more rest) out in
    let le : length (grammar.further_vertices more rest) ≤ n = omega (arith, enough, vertex_takes v (grammar.further_vertices more rest)) in
    rw one (vertices_read more n (xs ++ v ∷ []) rest out le stop other
    ∙ ap (λ ys. Some (ys, state rest out)) (append_assoc xs (v ∷ []) (map further_vertex more)))
vertices_read (at_once v ∷ more) (suc n) xs rest out enough stop other =
    let one = vertex_reads v (grammar.further_vertices more rest) out in
    let le : length (grammar.further_vertices more rest) ≤ n = omega (arith, enough, vertex_takes v (grammar.further_vertices more rest)) in
    rw one (vertices_read more n (xs ++ v ∷ []) rest out le stop other
    ∙ ap (λ ys. Some (ys, state rest out)) (append_assoc xs (v ∷ []) (map further_vertex more)))

board_read : (v : WrittenVertex) (more : List Further) (rest : Tokens) (out : List ParseStep) → Not Comma rest → is_name (first rest) ≡ false
    → all_vertices (state (grammar.vertex v (grammar.further_vertices more rest)) out) ≡ Some (v ∷ map further_vertex more, state rest out)
unfolding all_vertices
board_read v more rest out stop other =
    let one = vertex_reads v (grammar.further_vertices more rest) out in
    rw one (vertices_read more (length (grammar.further_vertices more rest)) (v ∷ []) rest out (omega arith) stop other)

variables_read : (all : List Declaration) (rest : Tokens) (out : List ParseStep) → Not Comma rest → is_name (first rest) ≡ false
    → all_variables (state (grammar.commas grammar.declaration all rest) out) ≡ Some (all, state rest out)
unfolding all_variables
variables_read [] rest out stop other = rw other refl
variables_read (d ∷ more) rest out stop other = listed_read declaration grammar.declaration declaration_reads declaration_takes d more rest out stop

-- what a section ends before: nothing that goes on with it
record Ends (rest : Tokens) : Type 0 where
  comma : Not Comma rest
  star : Not Star rest
  plus : Not Plus rest
  element : begins_element (first rest) ≡ false
  name : is_name (first rest) ≡ false

ended : (more : List Section) → Ends (grammar.text more)
unfolding sees same_sign
ended [] = record { comma = λ out. refl; star = λ out. refl; plus = λ out. refl; element = refl; name = refl }
ended (grammar.players head more ∷ rest) = record { comma = λ out. refl; star = λ out. refl; plus = λ out. refl; element = refl; name = refl }
ended (grammar.pieces head more ∷ rest) = record { comma = λ out. refl; star = λ out. refl; plus = λ out. refl; element = refl; name = refl }
ended (grammar.variables all ∷ rest) = record { comma = λ out. refl; star = λ out. refl; plus = λ out. refl; element = refl; name = refl }
ended (grammar.board head more ∷ rest) = record { comma = λ out. refl; star = λ out. refl; plus = λ out. refl; element = refl; name = refl }
ended (grammar.rules s ∷ rest) = record { comma = λ out. refl; star = λ out. refl; plus = λ out. refl; element = refl; name = refl }

-- the rules of a section nest no deeper than the parser goes
abbrev pub IsShallow : Section → Type 0
IsShallow (grammar.rules s) = sum_depth s < 65
IsShallow _ = Unit {0}

rules_all_read : (s : grammar.Sum) (rest : Tokens) → sum_depth s < 65 → Ends rest
    → all_rules (state (grammar.sum s rest) []) ≡ Some (sum_onto s [], state rest [])
unfolding all_rules
rules_all_read s rest deep end = rw (rules_read s 65 rest [] deep end.star end.element end.plus) refl

section_reads : (s : Section) (rest : Tokens) → IsShallow s → Ends rest → section (state (grammar.section s rest) []) ≡ Some (said_of s, state rest [])
unfolding section section_by name expect sees same_sign advance
section_reads (grammar.players head more) rest deep end = rw
    (listed_read declaration grammar.declaration declaration_reads declaration_takes head more rest [] end.comma) refl
section_reads (grammar.pieces head more) rest deep end = rw (listed_read name grammar.word name_reads name_takes head more rest [] end.comma) refl
section_reads (grammar.variables all) rest deep end = rw (variables_read all rest [] end.comma end.name) refl
section_reads (grammar.board head more) rest deep end = rw (board_read head more rest [] end.comma end.name) refl
section_reads (grammar.rules s) rest deep end = rw (rules_all_read s rest deep end) refl

-- each section's rules are shallow
pub data AreShallow : List Section → Type 0 where
  no_section : AreShallow []
  with_section : {s : Section} {rest : List Section} → IsShallow s → AreShallow rest → AreShallow (s ∷ rest)

text_len : (s : Section) (rest : Tokens) → IsShallow s → Ends rest → length rest < length (grammar.section s rest)
text_len (grammar.players head more) rest deep end = omega (arith, further_len declaration grammar.declaration declaration_reads declaration_takes more rest)
text_len (grammar.pieces head more) rest deep end = omega (arith, further_len name grammar.word name_reads name_takes more rest)
text_len (grammar.variables []) rest deep end = omega arith
text_len (grammar.variables (d ∷ more)) rest deep end = omega (arith, further_len declaration grammar.declaration declaration_reads declaration_takes more rest)
text_len (grammar.board head more) rest deep end = omega (arith, vertices_len more rest, vertex_takes head (grammar.further_vertices more rest))
text_len (grammar.rules s) rest deep end = omega (arith, sum_len s rest)

section_begins : (s : Section) (rest : Tokens) → is_done (grammar.section s rest) ≡ false
section_begins (grammar.players head more) rest = refl
section_begins (grammar.pieces head more) rest = refl
section_begins (grammar.variables all) rest = refl
section_begins (grammar.board head more) rest = refl
section_begins (grammar.rules s) rest = refl

one_read : (s : Section) (rest : Tokens) (n : ℕ) (all : List Said) → IsShallow s → Ends rest
    → sections (suc n) all (state (grammar.section s rest) []) ≡ sections n (all ++ said_of s ∷ []) (state rest [])
unfolding sections
one_read s rest n all shallow end = rw (section_begins s rest, section_reads s rest shallow end) refl

-- sections of the grammar are read up to the last token
pub sections_read : (more : List Section) (n : ℕ) (all : List Said) → AreShallow more → length (grammar.text more) ≤ n
    → sections n all (state (grammar.text more) []) ≡ Some (all ++ map said_of more, state [] [])
unfolding sections
sections_read [] zero all shallow enough = rw append-nil refl
sections_read [] (suc n) all shallow enough = rw append-nil refl
sections_read (s ∷ rest) zero all (with_section shallow others) enough = absurd (omega (arith, text_len s (grammar.text rest) shallow (ended rest), enough))
sections_read (s ∷ rest) (suc n) all (with_section shallow others) enough =
    let le : length (grammar.text rest) ≤ n = omega (arith, text_len s (grammar.text rest) shallow (ended rest), enough) in
    one_read s (grammar.text rest) n all shallow (ended rest) ∙ sections_read rest n (all ++ said_of s ∷ []) others le
    ∙ ap (λ ys. Some (ys, state [] [])) (append_assoc all (said_of s ∷ []) (map said_of rest))
