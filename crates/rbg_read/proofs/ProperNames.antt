-- The names of a game that a text reads to are proper.
use Rattle.std.proofs.Common.{◌≡◌, ◌≢◌, ℕ, zero, suc, ◌<◌, true, false, List, [], ◌∷◌, ◌++◌, length, get_or, map, filter, All, refl, sym, ap, ◌∙◌, subst, inl, inr, arith}
use Rattle.std.specs.Prelude.{⊤, ◌||◌, not, AllPairs, None}
use Rattle.std.specs.List.{flat_map, list_any}
use Rattle.std.specs.Str.{bytes_eq}
use Rattle.std.proofs.lemmas.Bool.{or_parts, cases_Bool}
use Rattle.std.proofs.lemmas.List.{map-append}
use Rattle.std.proofs.lemmas.List.Concat.{flat_map-cons}
use Rattle.std.proofs.lemmas.List.Elements.{All-nil, All-cons, All-head, All-tail, All-map, All-append, All-filter, filter_passes}
use Rattle.std.proofs.lemmas.List.Kept.{AllPairs-cons, AllPairs-filter}
use Rattle.std.proofs.lemmas.List.Folds.{list_any_at, list_all_at}
use Rattle.std.proofs.lemmas.Slice.Eq.{bytes_eq-Decides}
use Rattle.rbg_game.specs.Games.{Game}
use Rattle.rbg_game.specs.Names.{IsPlainName, HasProperNames}
use Rattle.rbg_text.specs.Token.{Text, Token, IsToken, is_word_byte, Splits}
use Rattle.rbg_text.specs.Syntax as g
use Rattle.rbg_text.specs.Syntax.{Tokens, Declaration, Section, Further, after_comma, at_once}
use Rattle.rbg_text.specs.Said.{further_vertex}
use Rattle.rbg_text.specs.declared.token.Sign.TheVariants.{Plus, Minus, Star, CloseParen, CloseBracket, CloseBrace}
use Rattle.rbg_read.specs.Means.{names_of, values_of, players_of, pieces_of, variables_of, vertices_of, declared, vertex, Names, first_appearances}
use Rattle.rbg_read.specs.Causes.{has_repeat, has_wrong_sections, has_not_two_players, has_unknown_name, has_repeated_name, first_cause}
use Rattle.rbg_read.proofs.SoundGames.{passed}
use Rattle.rbg_read.specs.Reads.{Reads, reads}

-- ---- tokens of a split

-- each token is one
Fine : Tokens → Type 0
Fine [] = ⊤
Fine (t ∷ ts) = IsToken t × Fine ts

split_fine : {bytes : Text} {ts : Tokens} → Splits bytes ts → Fine ts
unfolding Fine
split_fine (Splits.end gap) = tt
split_fine (Splits.token gap takes rest) = (takes.token, split_fine rest)

-- a word that may be a name
abbrev Named : Text → Type 0
Named w = IsToken (Token.name w)

further_behind : {X : Type 0} (said : X → Tokens → Tokens) (P : X → Type 0)
    → ((x : X) (rest : Tokens) → Fine (said x rest) → P x × Fine rest) → (xs : List X) (rest : Tokens) → Fine (g.further said xs rest)
    → All P xs × Fine rest
unfolding Fine
further_behind said P each [] rest h = (All-nil P, h)
further_behind said P each (x ∷ xs) rest h =
    let one = each x (g.further said xs rest) h.1 in
    let more = further_behind said P each xs rest one.1 in
    (All-cons P x xs one.0 more.0, more.1)

commas_behind : {X : Type 0} (said : X → Tokens → Tokens) (P : X → Type 0)
    → ((x : X) (rest : Tokens) → Fine (said x rest) → P x × Fine rest) → (xs : List X) (rest : Tokens) → Fine (g.commas said xs rest)
    → All P xs × Fine rest
commas_behind said P each [] rest h = (All-nil P, h)
commas_behind said P each (x ∷ xs) rest h =
    let one = each x (g.further said xs rest) h in
    let more = further_behind said P each xs rest one.1 in
    (All-cons P x xs one.0 more.0, more.1)

-- ---- what stands after expressions and rules

mutual
  unfolding Fine

  expr_behind : (e : g.Expr) (rest : Tokens) → Fine (g.expr e rest) → Fine rest
  expr_behind (g.sum_of t) rest h = term_behind t rest h
  expr_behind (g.plus e t) rest h = term_behind t rest (expr_behind e (g.mark Plus (g.term t rest)) h).1
  expr_behind (g.minus e t) rest h = term_behind t rest (expr_behind e (g.mark Minus (g.term t rest)) h).1

  term_behind : (t : g.Term) (rest : Tokens) → Fine (g.term t rest) → Fine rest
  term_behind (g.product_of f) rest h = factor_behind f rest h
  term_behind (g.times t f) rest h = factor_behind f rest (term_behind t (g.mark Star (g.factor f rest)) h).1

  factor_behind : (f : g.Factor) (rest : Tokens) → Fine (g.factor f rest) → Fine rest
  factor_behind (g.positive a) rest h = atom_behind a rest h
  factor_behind (g.negative a) rest h = atom_behind a rest h.1

  atom_behind : (a : g.Atom) (rest : Tokens) → Fine (g.atom a rest) → Fine rest
  atom_behind (g.literal n) rest h = h.1
  atom_behind (g.Atom.variable v) rest h = h.1
  atom_behind (g.parenthesized e) rest h = (expr_behind e (g.mark CloseParen rest) h.1).1

word_behind : (w : Text) (rest : Tokens) → Fine (g.word w rest) → Named w × Fine rest
unfolding Fine
word_behind w rest h = h

assignment_behind : (a : g.Assignment) (rest : Tokens) → Fine (g.assignment a rest) → Named a.target × Fine rest
unfolding Fine
assignment_behind a rest h = (h.0, expr_behind a.value rest h.1.1)

mutual
  unfolding Fine

  sum_behind : (s : g.Sum) (rest : Tokens) → Fine (g.sum s rest) → Fine rest
  sum_behind (g.branch c) rest h = concat_behind c rest h
  sum_behind (g.either s c) rest h = concat_behind c rest (sum_behind s (g.mark Plus (g.concat c rest)) h).1

  concat_behind : (c : g.Concat) (rest : Tokens) → Fine (g.concat c rest) → Fine rest
  concat_behind (g.single e) rest h = element_behind e rest h
  concat_behind (g.followed c e) rest h = element_behind e rest (concat_behind c (g.element e rest) h)

  element_behind : (e : g.Element) (rest : Tokens) → Fine (g.element e rest) → Fine rest
  element_behind (g.once b) rest h = base_behind b rest h
  element_behind (g.star b) rest h = (base_behind b (g.mark Star rest) h).1

  base_behind : (b : g.Base) (rest : Tokens) → Fine (g.base b rest) → Fine rest
  base_behind (g.shift w) rest h = h.1
  base_behind (g.on ws) rest h = (commas_behind g.word Named word_behind ws (g.mark CloseBrace rest) h.1).1.1
  base_behind (g.off w) rest h = h.1.1.1
  base_behind (g.assign a more) rest h = (commas_behind g.assignment (λ x. Named x.target) assignment_behind (a ∷ more) (g.mark CloseBracket rest) h.1.1).1.1
  base_behind (g.compare l t r) rest h =
      (expr_behind r (g.mark CloseBrace rest) (expr_behind l (g.mark (g.test_sign t) (g.expr r (g.mark CloseBrace rest))) h.1.1).1).1
  base_behind (g.switch w) rest h = h.1.1
  base_behind g.keeper rest h = h.1
  base_behind (g.some_word s) rest h = (sum_behind s (g.mark CloseBrace rest) h.1.1).1
  base_behind (g.no_word s) rest h = (sum_behind s (g.mark CloseBrace rest) h.1.1).1
  base_behind (g.group s) rest h = (sum_behind s (g.mark CloseParen rest) h.1).1

-- ---- what sections declare

declaration_behind : (d : Declaration) (rest : Tokens) → Fine (g.declaration d rest) → Named d.name × Fine rest
unfolding Fine
declaration_behind d rest h = (h.0, h.1.1.1.1)

arrow_behind : (a : g.WrittenArrow) (rest : Tokens) → Fine (g.arrow a rest) → Named a.label × Fine rest
unfolding Fine
arrow_behind a rest h = (h.0, h.1.1.1)

-- the names of a vertex and of the labels at it
abbrev NamedVertex : g.WrittenVertex → Type 0
NamedVertex v = Named v.name × All (λ a. Named a.label) v.arrows

vertex_behind : (v : g.WrittenVertex) (rest : Tokens) → Fine (g.vertex v rest) → NamedVertex v × Fine rest
unfolding Fine
vertex_behind v rest h =
    let arrows = commas_behind g.arrow (λ a. Named a.label) arrow_behind v.arrows (g.mark CloseBrace rest) h.1.1.1.1.1 in
    ((h.0, arrows.0), arrows.1.1)

vertices_behind : (more : List Further) (rest : Tokens) → Fine (g.further_vertices more rest) → All NamedVertex (map further_vertex more) × Fine rest
unfolding Fine
vertices_behind [] rest h = (All-nil NamedVertex, h)
vertices_behind (after_comma v ∷ more) rest h =
    let one = vertex_behind v (g.further_vertices more rest) h.1 in
    let rest2 = vertices_behind more rest one.1 in
    (All-cons NamedVertex v (map further_vertex more) one.0 rest2.0, rest2.1)
vertices_behind (at_once v ∷ more) rest h =
    let one = vertex_behind v (g.further_vertices more rest) h in
    let rest2 = vertices_behind more rest one.1 in
    (All-cons NamedVertex v (map further_vertex more) one.0 rest2.0, rest2.1)

record AreNamed (players : List Declaration) (pieces : List Text) (variables : List Declaration) (vertices : List g.WrittenVertex) : Type 0 where
  players_are : All (λ d. Named d.name) players
  pieces_are : All Named pieces
  variables_are : All (λ d. Named d.name) variables
  vertices_are : All NamedVertex vertices

abbrev SectionNamed : Section → Type 0
SectionNamed s = AreNamed (players_of s) (pieces_of s) (variables_of s) (vertices_of s)

no_declarations : All (λ (d : Declaration). Named d.name) []
no_declarations = All-nil (λ (d : Declaration). Named d.name)

no_names : All Named []
no_names = All-nil Named

no_vertices : All NamedVertex []
no_vertices = All-nil NamedVertex

section_behind : (s : Section) (rest : Tokens) → Fine (g.section s rest) → SectionNamed s × Fine rest
unfolding Fine
section_behind (g.players head more) rest h =
    let all = commas_behind g.declaration (λ d. Named d.name) declaration_behind (head ∷ more) rest h.1.1.1 in
    (record { players_are = all.0; pieces_are = no_names; variables_are = no_declarations; vertices_are = no_vertices }, all.1)
section_behind (g.pieces head more) rest h =
    let all = commas_behind g.word Named word_behind (head ∷ more) rest h.1.1.1 in
    (record { players_are = no_declarations; pieces_are = all.0; variables_are = no_declarations; vertices_are = no_vertices }, all.1)
section_behind (g.variables all) rest h =
    let each = commas_behind g.declaration (λ d. Named d.name) declaration_behind all rest h.1.1.1 in
    (record { players_are = no_declarations; pieces_are = no_names; variables_are = each.0; vertices_are = no_vertices }, each.1)
section_behind (g.board head more) rest h =
    let one = vertex_behind head (g.further_vertices more rest) h.1.1.1 in
    let others = vertices_behind more rest one.1 in (
      record {
        players_are = no_declarations;
        pieces_are = no_names;
        variables_are = no_declarations;
        vertices_are = All-cons NamedVertex head (map further_vertex more) one.0 others.0;
      },
      others.1,
    )
section_behind (g.rules s) rest h =
    (record { players_are = no_declarations; pieces_are = no_names; variables_are = no_declarations; vertices_are = no_vertices }, sum_behind s rest h.1.1.1)

-- one section more
more_of : {X : Type 0} (P : X → Type 0) (f : Section → List X) (s : Section) (all : List Section) → All P (f s) → All P (flat_map f all)
    → All P (flat_map f (s ∷ all))
more_of P f s all h k = subst (All P) (sym (flat_map-cons f s all)) (All-append P (f s) (flat_map f all) h k)

text_named : (all : List Section) → Fine (g.text all) → AreNamed (flat_map players_of all) (flat_map pieces_of all)
    (flat_map variables_of all) (flat_map vertices_of all)
text_named [] h = record { players_are = no_declarations; pieces_are = no_names; variables_are = no_declarations; vertices_are = no_vertices }
text_named (s ∷ all) h =
    let one = section_behind s (g.text all) h in
    let rest = text_named all one.1 in
    record {
      players_are = more_of (λ d. Named d.name) players_of s all one.0.players_are rest.players_are;
      pieces_are = more_of Named pieces_of s all one.0.pieces_are rest.pieces_are;
      variables_are = more_of (λ d. Named d.name) variables_of s all one.0.variables_are rest.variables_are;
      vertices_are = more_of NamedVertex vertices_of s all one.0.vertices_are rest.vertices_are;
    }

-- ---- plain names

other : (c b : ℕ) → is_word_byte b ≡ true → is_word_byte c ≡ false → b ≢ c
other c b h k same = let bad : is_word_byte c ≡ true = subst (λ x. is_word_byte x ≡ true) same h in cc (bad, k)

plain : (w : Text) → Named w → IsPlainName w
plain w named k d lt = elim (cases_Bool (is_word_byte (get_or w k d))) [
  | inl is ↦ (other 32 _ is refl, other 44 _ is refl, other 62 _ is refl)
  | inr isnt ↦ let bad = list_all_at is_word_byte w k d lt isnt in let good = named.0 in absurd (cc (bad, good))
]

-- ---- no name twice

differ : (names : List Text) → has_repeat names ≡ false → AllPairs ◌≢◌ names
differ [] h i j d lt within same = absurd (omega (arith, within))
differ (x ∷ names) h zero zero d lt within same = absurd (omega (arith, lt))
differ (x ∷ names) h zero (suc j) d lt within same =
    let parts = or_parts (list_any (bytes_eq x) names) (has_repeat names) h in
    let there : j < length names = omega (arith, within) in
    let found = list_any_at (bytes_eq x) names j d there ((bytes_eq-Decides x (get_or names j d)).1 same) in
    let not_there = parts.0 in
    cc (found, not_there)
differ (x ∷ names) h (suc i) zero d lt within same = absurd (omega (arith, lt))
differ (x ∷ names) h (suc i) (suc j) d lt within same =
    let parts = or_parts (list_any (bytes_eq x) names) (has_repeat names) h in
    differ names parts.1 i j d (omega (arith, lt)) (omega (arith, within)) same

-- each name that appears is among the first appearances, and none of them twice
first_named : (P : Text → Type 0) (names : List Text) → All P names → All P (first_appearances names)
first_named P [] h = h
first_named P (x ∷ names) h =
    All-cons P x (filter (λ y. not (bytes_eq x y)) (first_appearances names)) (All-head P x names h)
    (All-filter (λ y. not (bytes_eq x y)) P (first_appearances names) (first_named P names (All-tail P x names h)))

first_differ : (names : List Text) → AllPairs ◌≢◌ (first_appearances names)
first_differ [] = λ i j d lt within same. absurd (omega (arith, within))
first_differ (x ∷ names) =
    let others = first_appearances names in
    let apart : All (λ y. x ≢ y) (filter (λ y. not (bytes_eq x y)) others) = λ k d lt same.
    let passes = filter_passes (λ y. not (bytes_eq x y)) others k d lt in
    let equal = (bytes_eq-Decides x (get_or (filter (λ y. not (bytes_eq x y)) others) k d)).1 same in
    cc (passes, equal)
    in
    AllPairs-cons ◌≢◌ x (filter (λ y. not (bytes_eq x y)) others) apart
    (AllPairs-filter ◌≢◌ (λ y. not (bytes_eq x y)) others (first_differ names))

-- ---- the whole

abbrev labels_at : g.WrittenVertex → List Text
labels_at v = map (λ a. a.label) v.arrows

labels_named : (vs : List g.WrittenVertex) → All NamedVertex vs → All Named (flat_map labels_at vs)
labels_named [] h = no_names
labels_named (v ∷ vs) h =
    subst (All Named) (sym (flat_map-cons labels_at v vs))
    (All-append Named (labels_at v) (flat_map labels_at vs)
    (All-map Named (λ a. a.label) v.arrows (All-head NamedVertex v vs h).1) (labels_named vs (All-tail NamedVertex v vs h)))

vertex_names : (names : Names) (vs : List g.WrittenVertex) → map (λ v. v.name) (map (vertex names) vs) ≡ map (λ v. v.name) vs
vertex_names names [] = refl
vertex_names names (v ∷ vs) = ap (λ ws. v.name ∷ ws) (vertex_names names vs)

declared_names : (ds : List Declaration) → map (λ v. v.name) (map declared ds) ≡ map (λ d. d.name) ds
declared_names [] = refl
declared_names (d ∷ ds) = ap (λ ws. d.name ∷ ws) (declared_names ds)

all_plain : (ws : List Text) → All Named ws → All IsPlainName ws
all_plain ws named k d lt = plain (get_or ws k d) (named k d lt)

pub proper : (text : Text) (game : Game) → Reads text game → HasProperNames game
proper text game (reads {ts = ts} {all = all} short flat parses fine means) =
    let players = flat_map players_of all in
    let variables = flat_map variables_of all in
    let vertices = flat_map vertices_of all in
    let fine_tokens : Fine (g.text all) = subst Fine parses.spelled (split_fine parses.splits) in
    let named = text_named all fine_tokens in
    let h5 = not_repeated all fine in
    let repeats = or_parts (has_repeat (values_of (names_of all)) || has_repeat (flat_map pieces_of all) || has_repeat (map (λ v. v.name) vertices)) _ h5 in
    let first_three = or_parts (has_repeat (values_of (names_of all)) || has_repeat (flat_map pieces_of all))
    (has_repeat (map (λ v. v.name) vertices)) repeats.0 in
    let first_two = or_parts (has_repeat (values_of (names_of all))) (has_repeat (flat_map pieces_of all)) first_three.0 in
    let value_names : map (λ v. v.name) game.variables ≡ values_of (names_of all) =
    ap (map (λ v. v.name)) means.variables ∙ declared_names (players ++ variables) ∙ map-append (λ d. d.name) players variables in
    let board_names : map (λ v. v.name) game.vertices ≡ map (λ v. v.name) vertices = ap (map (λ v. v.name)) means.vertices
    ∙ vertex_names (names_of all) vertices in
    record {
      pieces_plain = subst (All IsPlainName) (sym means.pieces) (all_plain (flat_map pieces_of all) named.pieces_are);
      vertices_plain = subst (All IsPlainName) (sym board_names)
          (all_plain (map (λ v. v.name) vertices) (All-map Named (λ v. v.name) vertices (λ k d lt. (named.vertices_are k d lt).0)));
      variables_plain = subst (All IsPlainName) (sym value_names) (all_plain (values_of (names_of all))
          (All-append Named (map (λ d. d.name) players) (map (λ d. d.name) variables)
          (All-map Named (λ d. d.name) players named.players_are) (All-map Named (λ d. d.name) variables named.variables_are)));
      labels_plain = subst (All IsPlainName) (sym means.labels)
          (all_plain (names_of all).labels (first_named Named (flat_map labels_at vertices) (labels_named vertices named.vertices_are)));
      pieces_differ = subst (AllPairs ◌≢◌) (sym means.pieces) (differ (flat_map pieces_of all) first_two.1);
      vertices_differ = subst (AllPairs ◌≢◌) (sym board_names) (differ (map (λ v. v.name) vertices) first_three.1);
      variables_differ = subst (AllPairs ◌≢◌) (sym value_names) (differ (values_of (names_of all)) first_two.0);
      labels_differ = subst (AllPairs ◌≢◌) (sym means.labels) (first_differ (flat_map labels_at vertices));
    }
  where
    not_repeated : (all : List Section) → first_cause all ≡ None → has_repeated_name all ≡ false
    not_repeated all h =
        let h2 = passed (has_wrong_sections all) _ _ h in
        let h3 = passed (has_not_two_players all) _ _ h2.1 in
        let h4 = passed (has_unknown_name all) _ _ h3.1 in
        (passed (has_repeated_name all) _ _ h4.1).0
