-- What the parser of sections reads is sections of the grammar.
use Rattle.std.proofs.Common.{◌≡◌, ℕ, zero, suc, Bool, true, false, List, [], ◌∷◌, ◌++◌, map, length, Option, Some, None, ◌∙◌, sym, refl, ap, inl, inr, append_assoc, append-nil}
use Rattle.std.specs.Prelude.{◌||◌, codes}
use Rattle.std.specs.Str.{bytes_eq}
use Rattle.std.proofs.lemmas.Bool.{cases_Bool}
use Rattle.std.proofs.lemmas.Slice.Eq.{bytes_eq-Decides}
use Rattle.std.proofs.lemmas.Option.{some_pair_parts}
use Rattle.rbg_text.specs.Token.{Text, Token}
use Rattle.rbg_text.specs.Syntax as grammar
use Rattle.rbg_text.specs.Syntax.{Tokens, Declaration, WrittenArrow, WrittenVertex, Further, after_comma, at_once, Section}
use Rattle.rbg_text.specs.Parse.{ParseStep, ParseState}
use Rattle.rbg_text.specs.lemmas.Parse.{Parser, first, sees, advance, after, expect, name, rules_to}
use Rattle.rbg_text.specs.Said.{Said, further_vertex, said_of}
use Rattle.rbg_text.specs.lemmas.ParseSections as parse
use Rattle.rbg_text.specs.lemmas.ParseSections.{items, listed, number_by, number, declaration, arrow, arrows, vertex, is_name, vertices}
use Rattle.rbg_text.specs.lemmas.ParseSections.{all_vertices, all_variables, all_rules, section_by, section, is_done, sections}
use Rattle.rbg_text.specs.Postfix.{sum_onto}
use Rattle.rbg_text.specs.declared.token.Sign.{Sign}
use Rattle.rbg_text.specs.declared.token.Sign.TheVariants.{Hash, Comma, Colon, Equal, OpenParen, CloseParen, OpenBracket, CloseBracket, OpenBrace, CloseBrace}
use Rattle.rbg_text.proofs.ExpressionsSound.{bind_some, seen, expected, first_is}
use Rattle.rbg_text.proofs.RulesSound.{Takes, named, rules_say}

-- x was read, as `said` writes it
pub record Got {X : Type 0} (said : X → Tokens → Tokens) (i j : ParseState) (x : X) : Type 0 where
  pub tokens : i.tokens ≡ said x j.tokens
  pub steps : j.steps ≡ i.steps

abbrev GetsAs : {X : Type 0} → Parser X → (X → Tokens → Tokens) → Type 0
GetsAs {X = X} parser said = (i j : ParseState) (x : X) → parser i ≡ Some (x, j) → Got said i j x

moved : {X : Type 0} (said : X → Tokens → Tokens) (i k j : ParseState) (x y : X) → (x ≡ y) × (k ≡ j) → Got said i k x → Got said i j y
moved said i k j x y p g = rw (← p.0, ← p.1) g

name_got : GetsAs name grammar.word
name_got i j w e = let t = named i j w e in record { tokens = t.tokens; steps = t.steps }

numbered : (i j : ParseState) (w : Text) → number i ≡ Some (w, j) → Takes (Token.number w) i j
unfolding number advance
numbered i j w e = go (first i.tokens) refl e
  where
    go : (o : Option Token) → first i.tokens ≡ o → number_by o i ≡ Some (w, j) → Takes (Token.number w) i j
    go (Some (Token.number v)) h e =
        let p = some_pair_parts _ _ _ _ e in
        rw (← p.0, ← p.1) (record { tokens = first_is i.tokens (Token.number v) h; steps = refl })
    go _ h e = absurd cc

-- further items, each with a comma before it
record More {X : Type 0} (said : X → Tokens → Tokens) (xs : List X) (i j : ParseState) (ys : List X) : Type 0 where
  more : List X
  is : ys ≡ xs ++ more
  tokens : i.tokens ≡ grammar.further said more j.tokens
  steps : j.steps ≡ i.steps

none_more : {X : Type 0} (said : X → Tokens → Tokens) (xs : List X) (i j : ParseState) (ys : List X) → parse.give xs i ≡ Some (ys, j) → More said xs i j ys
none_more said xs i j ys e =
    let p = some_pair_parts xs ys i j e in
    record { more = []; is = sym p.0 ∙ sym (append-nil xs); tokens = ap (λ k. k.tokens) p.1; steps = ap (λ k. k.steps) (sym p.1) }

module _ {X : Type 0} (item : Parser X) (said : X → Tokens → Tokens) (gets : GetsAs item said) where
  items_more : (n : ℕ) (xs : List X) (i j : ParseState) (ys : List X) → items item n xs i ≡ Some (ys, j) → More said xs i j ys
  unfolding items after advance
  items_more zero xs i j ys e = none_more said xs i j ys e
  items_more (suc n) xs i j ys e = elim (cases_Bool (sees Comma i)) [
    | inl is ↦
        let b = bind_some (item (advance i)) _ (ys, j) (rw is at e) in
        let g = gets (advance i) b.0.1 b.0.0 b.1 in
        let m = items_more n (xs ++ b.0.0 ∷ []) b.0.1 j ys b.2 in
        record {
          more = b.0.0 ∷ m.more;
          is = m.is ∙ append_assoc xs (b.0.0 ∷ []) m.more;
          tokens = seen Comma i is ∙ ap (λ ts. grammar.mark Comma ts) (g.tokens ∙ ap (λ ts. said b.0.0 ts) m.tokens);
          steps = m.steps ∙ g.steps;
        }
    | inr isnt ↦ none_more said xs i j ys (rw isnt at e)
  ]

-- one item or more
record Some_of {X : Type 0} (said : X → Tokens → Tokens) (i j : ParseState) (ys : List X) : Type 0 where
  head : X
  more : List X
  is : ys ≡ head ∷ more
  tokens : i.tokens ≡ said head (grammar.further said more j.tokens)
  steps : j.steps ≡ i.steps

listed_some : {X : Type 0} (item : Parser X) (said : X → Tokens → Tokens) → GetsAs item said → (i j : ParseState) (ys : List X)
    → listed item i ≡ Some (ys, j) → Some_of said i j ys
unfolding listed
listed_some item said gets i j ys e =
    let b = bind_some (item i) _ (ys, j) e in
    let g = gets i b.0.1 b.0.0 b.1 in
    let m = items_more item said gets (length b.0.1.tokens) (b.0.0 ∷ []) b.0.1 j ys b.2 in
    record { head = b.0.0; more = m.more; is = m.is; tokens = g.tokens ∙ ap (λ ts. said b.0.0 ts) m.tokens; steps = m.steps ∙ g.steps }

declaration_got : GetsAs declaration grammar.declaration
unfolding declaration
declaration_got i j x e =
    let a = bind_some (name i) _ (x, j) e in
    let w = named i a.0.1 a.0.0 a.1 in
    let b = bind_some (expect OpenParen a.0.1) _ (x, j) a.2 in
    let s = expected OpenParen a.0.1 b.0.1 b.0.0 b.1 in
    let c = bind_some (number b.0.1) _ (x, j) b.2 in
    let n = numbered b.0.1 c.0.1 c.0.0 c.1 in
    let d = bind_some (expect CloseParen c.0.1) _ (x, j) c.2 in
    let t = expected CloseParen c.0.1 d.0.1 d.0.0 d.1 in
    let p = some_pair_parts _ _ _ _ d.2 in
    moved _ i _ j _ x p (record {
      tokens = w.tokens ∙ ap (λ ts. grammar.word a.0.0 ts)
          (s.tokens ∙ ap (λ ts. grammar.mark OpenParen ts) (n.tokens ∙ ap (λ ts. Token.number c.0.0 ∷ ts) t.tokens));
      steps = sym t.steps ∙ n.steps ∙ sym s.steps ∙ w.steps;
    })

arrow_got : GetsAs arrow grammar.arrow
unfolding arrow
arrow_got i j x e =
    let a = bind_some (name i) _ (x, j) e in
    let w = named i a.0.1 a.0.0 a.1 in
    let b = bind_some (expect Colon a.0.1) _ (x, j) a.2 in
    let s = expected Colon a.0.1 b.0.1 b.0.0 b.1 in
    let c = bind_some (name b.0.1) _ (x, j) b.2 in
    let n = named b.0.1 c.0.1 c.0.0 c.1 in
    let p = some_pair_parts _ _ _ _ c.2 in
    moved _ i _ j _ x p (record {
      tokens = w.tokens ∙ ap (λ ts. grammar.word a.0.0 ts) (s.tokens ∙ ap (λ ts. grammar.mark Colon ts) n.tokens);
      steps = n.steps ∙ sym s.steps ∙ w.steps;
    })

-- a list in which there may be no item
record Any_of {X : Type 0} (said : X → Tokens → Tokens) (i j : ParseState) (ys : List X) : Type 0 where
  tokens : i.tokens ≡ grammar.commas said ys j.tokens
  steps : j.steps ≡ i.steps

none_of : {X : Type 0} (said : X → Tokens → Tokens) (i j : ParseState) (ys : List X) → parse.give [] i ≡ Some (ys, j) → Any_of said i j ys
none_of said i j ys e = let p = some_pair_parts [] ys i j e in rw (← p.0, ← p.1) (record { tokens = refl; steps = refl })

any_of : {X : Type 0} (said : X → Tokens → Tokens) (i j : ParseState) (ys : List X) → Some_of said i j ys → Any_of said i j ys
any_of said i j ys s = rw s.is (record { tokens = s.tokens; steps = s.steps })

arrows_got : (i j : ParseState) (ys : List WrittenArrow) → arrows i ≡ Some (ys, j) → Any_of grammar.arrow i j ys
unfolding arrows
arrows_got i j ys e = elim (cases_Bool (sees CloseBrace i)) [
  | inl is ↦ none_of grammar.arrow i j ys (rw is at e)
  | inr isnt ↦ any_of grammar.arrow i j ys (listed_some arrow grammar.arrow arrow_got i j ys (rw isnt at e))
]

vertex_got : GetsAs vertex grammar.vertex
unfolding vertex
vertex_got i j x e =
    let a = bind_some (name i) _ (x, j) e in
    let w = named i a.0.1 a.0.0 a.1 in
    let b = bind_some (expect OpenBracket a.0.1) _ (x, j) a.2 in
    let s = expected OpenBracket a.0.1 b.0.1 b.0.0 b.1 in
    let c = bind_some (name b.0.1) _ (x, j) b.2 in
    let n = named b.0.1 c.0.1 c.0.0 c.1 in
    let d = bind_some (expect CloseBracket c.0.1) _ (x, j) c.2 in
    let t = expected CloseBracket c.0.1 d.0.1 d.0.0 d.1 in
    let f = bind_some (expect OpenBrace d.0.1) _ (x, j) d.2 in
    let o = expected OpenBrace d.0.1 f.0.1 f.0.0 f.1 in
    let g = bind_some (arrows f.0.1) _ (x, j) f.2 in
    let all = arrows_got f.0.1 g.0.1 g.0.0 g.1 in
    let h = bind_some (expect CloseBrace g.0.1) _ (x, j) g.2 in
    let q = expected CloseBrace g.0.1 h.0.1 h.0.0 h.1 in
    let p = some_pair_parts _ _ _ _ h.2 in
    moved _ i _ j _ x p (record {
      tokens = w.tokens ∙ ap (λ ts. grammar.word a.0.0 ts) (s.tokens ∙ ap (λ ts. grammar.mark OpenBracket ts) (n.tokens ∙ ap (λ ts. grammar.word c.0.0 ts)
          (t.tokens ∙ ap (λ ts. grammar.mark CloseBracket ts)
          (o.tokens ∙ ap (λ ts. grammar.mark OpenBrace ts) (all.tokens ∙ ap (λ ts. grammar.commas grammar.arrow g.0.0 ts) q.tokens)))));
      steps = sym q.steps ∙ all.steps ∙ sym o.steps ∙ sym t.steps ∙ n.steps ∙ sym s.steps ∙ w.steps;
    })

-- further vertices
record MoreVertices (xs : List WrittenVertex) (i j : ParseState) (ys : List WrittenVertex) : Type 0 where
  more : List Further
  is : ys ≡ xs ++ map further_vertex more
  tokens : i.tokens ≡ grammar.further_vertices more j.tokens
  steps : j.steps ≡ i.steps

no_vertices : (xs : List WrittenVertex) (i j : ParseState) (ys : List WrittenVertex) → parse.give xs i ≡ Some (ys, j) → MoreVertices xs i j ys
no_vertices xs i j ys e =
    let p = some_pair_parts xs ys i j e in
    record { more = []; is = sym p.0 ∙ sym (append-nil xs); tokens = ap (λ k. k.tokens) p.1; steps = ap (λ k. k.steps) (sym p.1) }

vertices_more : (n : ℕ) (xs : List WrittenVertex) (i j : ParseState) (ys : List WrittenVertex) → vertices n xs i ≡ Some (ys, j) → MoreVertices xs i j ys
unfolding vertices after advance
vertices_more zero xs i j ys e = no_vertices xs i j ys e
vertices_more (suc n) xs i j ys e = elim (cases_Bool (sees Comma i)) [
  | inl is ↦
      let b = bind_some (vertex (advance i)) _ (ys, j) (rw is at e) in
      let g = vertex_got (advance i) b.0.1 b.0.0 b.1 in
      let m = vertices_more n (xs ++ b.0.0 ∷ []) b.0.1 j ys b.2 in
      record {
        more = after_comma b.0.0 ∷ m.more;
        is = m.is ∙ append_assoc xs (b.0.0 ∷ []) (map further_vertex m.more);
        tokens = seen Comma i is ∙ ap (λ ts. grammar.mark Comma ts) (g.tokens ∙ ap (λ ts. grammar.vertex b.0.0 ts) m.tokens);
        steps = m.steps ∙ g.steps;
      }
  | inr isnt ↦ elim (cases_Bool (is_name (first i.tokens))) [
    | inl named ↦
        let b = bind_some (vertex i) _ (ys, j) (rw (isnt, named) at e) in
        let g = vertex_got i b.0.1 b.0.0 b.1 in
        let m = vertices_more n (xs ++ b.0.0 ∷ []) b.0.1 j ys b.2 in
        record {
          more = at_once b.0.0 ∷ m.more;
          is = m.is ∙ append_assoc xs (b.0.0 ∷ []) (map further_vertex m.more);
          tokens = g.tokens ∙ ap (λ ts. grammar.vertex b.0.0 ts) m.tokens;
          steps = m.steps ∙ g.steps;
        }
    | inr other ↦ no_vertices xs i j ys (rw (isnt, other) at e)
  ]
]

-- a section, where no steps were left before it
pub record IsSection (i j : ParseState) (x : Said) : Type 0 where
  pub what : Section
  pub is : said_of what ≡ x
  pub tokens : i.tokens ≡ grammar.section what j.tokens
  pub steps : j.steps ≡ []

-- a section whose title was read before
record Titled (title : Text) (i j : ParseState) (x : Said) : Type 0 where
  what : Section
  is : said_of what ≡ x
  tokens : grammar.headed title i.tokens ≡ grammar.section what j.tokens
  steps : j.steps ≡ []

variables_got : (i j : ParseState) (ys : List Declaration) → all_variables i ≡ Some (ys, j) → Any_of grammar.declaration i j ys
unfolding all_variables
variables_got i j ys e = elim (cases_Bool (is_name (first i.tokens))) [
  | inl is ↦ any_of grammar.declaration i j ys (listed_some declaration grammar.declaration declaration_got i j ys (rw is at e))
  | inr isnt ↦ none_of grammar.declaration i j ys (rw isnt at e)
]

-- the board after its title
record IsBoard (i j : ParseState) (ys : List WrittenVertex) : Type 0 where
  head : WrittenVertex
  more : List Further
  is : ys ≡ head ∷ map further_vertex more
  tokens : i.tokens ≡ grammar.vertex head (grammar.further_vertices more j.tokens)
  steps : j.steps ≡ i.steps

board_got : (i j : ParseState) (ys : List WrittenVertex) → all_vertices i ≡ Some (ys, j) → IsBoard i j ys
unfolding all_vertices
board_got i j ys e =
    let b = bind_some (vertex i) _ (ys, j) e in
    let g = vertex_got i b.0.1 b.0.0 b.1 in
    let m = vertices_more (length b.0.1.tokens) (b.0.0 ∷ []) b.0.1 j ys b.2 in
    record { head = b.0.0; more = m.more; is = m.is; tokens = g.tokens ∙ ap (λ ts. grammar.vertex b.0.0 ts) m.tokens; steps = m.steps ∙ g.steps }

-- the rules after their title, where no steps were left before them
record AreRules (i j : ParseState) (out : List ParseStep) : Type 0 where
  what : grammar.Sum
  is : out ≡ sum_onto what []
  tokens : i.tokens ≡ grammar.sum what j.tokens
  steps : j.steps ≡ []

all_rules_got : (i j : ParseState) (out : List ParseStep) → i.steps ≡ [] → all_rules i ≡ Some (out, j) → AreRules i j out
unfolding all_rules
all_rules_got i j out none e =
    let b = bind_some (rules_to 65 i) _ (out, j) e in
    let s = rules_say 65 i b.0.1 b.0.0 b.1 in
    let p = some_pair_parts _ _ _ _ b.2 in
    record {
      what = s.what;
      is = sym p.0 ∙ s.steps ∙ ap (λ before. sum_onto s.what before) none;
      tokens = s.tokens ∙ ap (λ k. grammar.sum s.what k.tokens) p.1;
      steps = ap (λ k. k.steps) (sym p.1);
    }

-- what was read under the title
titled : (title word : Text) (what : Section) (i k j : ParseState) (said x : Said) → title ≡ word → said_of what ≡ said
    → grammar.headed word i.tokens ≡ grammar.section what k.tokens
    → k.steps ≡ [] → parse.give said k ≡ Some (x, j) → Titled title i j x
titled title word what i k j said x same is tokens steps e =
    let p = some_pair_parts said x k j e in
    record {
      what = what;
      is = is ∙ p.0;
      tokens = ap (λ w. grammar.headed w i.tokens) same ∙ tokens ∙ ap (λ l. grammar.section what l.tokens) p.1;
      steps = ap (λ l. l.steps) (sym p.1) ∙ steps;
    }

is_word : (title word : Text) → bytes_eq title word ≡ true → title ≡ word
is_word title word e = (bytes_eq-Decides title word).0 e

titled_says : (title : Text) (i j : ParseState) (x : Said) → i.steps ≡ [] → section_by title i ≡ Some (x, j) → Titled title i j x
unfolding section_by
titled_says title i j x none e = elim (cases_Bool (bytes_eq title (codes "players"))) [
  | inl is ↦
      let b = bind_some (listed declaration i) _ (x, j) (rw is at e) in
      let s = listed_some declaration grammar.declaration declaration_got i b.0.1 b.0.0 b.1 in
      titled title _ (grammar.players s.head s.more) i b.0.1 j _ x (is_word title _ is) (ap Said.players (sym s.is))
      (ap (λ ts. grammar.headed (codes "players") ts) s.tokens) (s.steps ∙ none) b.2
  | inr not_players ↦ elim (cases_Bool (bytes_eq title (codes "pieces"))) [
    | inl is ↦
        let b = bind_some (listed name i) _ (x, j) (rw (not_players, is) at e) in
        let s = listed_some name grammar.word name_got i b.0.1 b.0.0 b.1 in
        titled title _ (grammar.pieces s.head s.more) i b.0.1 j _ x (is_word title _ is) (ap Said.pieces (sym s.is))
        (ap (λ ts. grammar.headed (codes "pieces") ts) s.tokens) (s.steps ∙ none) b.2
    | inr not_pieces ↦ elim (cases_Bool (bytes_eq title (codes "variables"))) [
      | inl is ↦
          let b = bind_some (all_variables i) _ (x, j) (rw (not_players, not_pieces, is) at e) in
          let s = variables_got i b.0.1 b.0.0 b.1 in
          titled title _ (grammar.variables b.0.0) i b.0.1 j _ x (is_word title _ is) refl
          (ap (λ ts. grammar.headed (codes "variables") ts) s.tokens) (s.steps ∙ none) b.2
      | inr not_variables ↦ elim (cases_Bool (bytes_eq title (codes "board"))) [
        | inl is ↦
            let b = bind_some (all_vertices i) _ (x, j) (rw (not_players, not_pieces, not_variables, is) at e) in
            let s = board_got i b.0.1 b.0.0 b.1 in
            titled title _ (grammar.board s.head s.more) i b.0.1 j _ x (is_word title _ is) (ap Said.board (sym s.is))
            (ap (λ ts. grammar.headed (codes "board") ts) s.tokens) (s.steps ∙ none) b.2
        | inr not_board ↦ elim (cases_Bool (bytes_eq title (codes "rules"))) [
          | inl is ↦
              let b = bind_some (all_rules i) _ (x, j) (rw (not_players, not_pieces, not_variables, not_board, is) at e) in
              let s = all_rules_got i b.0.1 b.0.0 none b.1 in
              titled title _ (grammar.rules s.what) i b.0.1 j _ x (is_word title _ is) (ap Said.rules (sym s.is))
              (ap (λ ts. grammar.headed (codes "rules") ts) s.tokens) s.steps b.2
          | inr not_rules ↦ let off = rw (not_players, not_pieces, not_variables, not_board, not_rules) at e in absurd cc
        ]
      ]
    ]
  ]
]

section_says : (i j : ParseState) (x : Said) → i.steps ≡ [] → section i ≡ Some (x, j) → IsSection i j x
unfolding section
section_says i j x none e =
    let a = bind_some (expect Hash i) _ (x, j) e in
    let h = expected Hash i a.0.1 a.0.0 a.1 in
    let b = bind_some (name a.0.1) _ (x, j) a.2 in
    let w = named a.0.1 b.0.1 b.0.0 b.1 in
    let c = bind_some (expect Equal b.0.1) _ (x, j) b.2 in
    let q = expected Equal b.0.1 c.0.1 c.0.0 c.1 in
    let t = titled_says b.0.0 c.0.1 j x (sym q.steps ∙ w.steps ∙ sym h.steps ∙ none) c.2 in
    record {
      what = t.what;
      is = t.is;
      tokens = h.tokens ∙ ap (λ ts. grammar.mark Hash ts) (w.tokens ∙ ap (λ ts. grammar.word b.0.0 ts) q.tokens) ∙ t.tokens;
      steps = t.steps;
    }

-- sections up to the last token
pub record AreSections (all : List Said) (i : ParseState) (ys : List Said) : Type 0 where
  pub more : List Section
  pub is : ys ≡ all ++ map said_of more
  pub tokens : i.tokens ≡ grammar.text more

no_sections : (all : List Said) (i j : ParseState) (ys : List Said) → is_done i.tokens ≡ true → parse.give all i ≡ Some (ys, j) → AreSections all i ys
no_sections all i j ys is e =
    let p = some_pair_parts all ys i j e in
    record { more = []; is = sym p.0 ∙ sym (append-nil all); tokens = nothing i.tokens is }
  where
    nothing : (ts : Tokens) → is_done ts ≡ true → ts ≡ []
    nothing [] h = refl
    nothing (t ∷ ts) h = absurd cc

-- what is read is sections of the grammar
pub sections_say : (n : ℕ) (all : List Said) (i j : ParseState) (ys : List Said) → i.steps ≡ [] → sections n all i ≡ Some (ys, j) → AreSections all i ys
unfolding sections
sections_say zero all i j ys none e = elim (cases_Bool (is_done i.tokens)) [
  | inl is ↦ no_sections all i j ys is (rw is at e)
  | inr isnt ↦ let off = rw isnt at e in absurd cc
]
sections_say (suc n) all i j ys none e = elim (cases_Bool (is_done i.tokens)) [
  | inl is ↦ no_sections all i j ys is (rw is at e)
  | inr isnt ↦
      let b = bind_some (section i) _ (ys, j) (rw isnt at e) in
      let s = section_says i b.0.1 b.0.0 none b.1 in
      let m = sections_say n (all ++ b.0.0 ∷ []) b.0.1 j ys s.steps b.2 in
      record {
        more = s.what ∷ m.more;
        is = m.is ∙ append_assoc all (b.0.0 ∷ []) (map said_of m.more) ∙ ap (λ y. all ++ (y ∷ map said_of m.more)) (sym s.is);
        tokens = s.tokens ∙ ap (λ ts. grammar.section s.what ts) m.tokens;
      }
]
