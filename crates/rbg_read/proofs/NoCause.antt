-- What holds of parts without a cause against them.
use Rattle.std.proofs.Common.{◌≡◌, ◌+◌, ◌≤◌, Bool, true, false, not, length, map, Option, Some, None, refl, sym, ap, ◌∙◌, arith, eqb}
use Rattle.std.specs.Prelude.{if◌then◌else◌}
use Rattle.std.specs.List.{list_any}
use Rattle.std.proofs.lemmas.Bool.{or_parts, eqb-true, ltb-false, not-false}
use Rattle.std.proofs.lemmas.List.{length-map, length-append}
use Rattle.rbg_text.specs.Said.{declaration_view}
use Rattle.rbg_read.specs.lemmas.Flat.{flat_cause, uses_unknown, repeats_name, has_large, is_past_a_limit, is_large_number, has_large_bound}
use Rattle.rbg_read.specs.lemmas.Parts.{Parts, Known, known_of, AreFew, parts_view}
use Rattle.rbg_read.specs.declared.fault.GameFault.{GameFault}
use Rattle.rbg_read.specs.declared.parts.Parts.{Parts as CodeParts}
use Rattle.rbg_read.proofs.Lists.{any_map}

-- a cause that is not the first
pub passed : (b : Bool) (c : GameFault) (o : Option GameFault) → (if b then Some c else o) ≡ None → (b ≡ false) × (o ≡ None)
passed true c o h = absurd (cc)
passed false c o h = (refl, h)

pub few : (known : Known) (p : Parts) → known ≡ known_of p → length p.players ≡ 2 → is_past_a_limit known p ≡ false → AreFew known
few known p named two h =
    let a = or_parts _ _ h in
    let b = or_parts _ _ a.0 in
    let c = or_parts _ _ b.0 in
    let d = or_parts _ _ c.0 in
    let variables : length p.variables ≤ 32 = ltb-false 32 _ b.1 in
    let players_are : length known.players ≡ 2 = ap (λ k. length k.players) named ∙ length-map p.players (λ d. d.name) ∙ two in
    let values_are : length known.values ≡ 2 + length p.variables =
    ap (λ k. length k.values) named ∙ length-append (map (λ d. d.name) p.players) (map (λ d. d.name) p.variables)
    ∙ ap (λ n. n + length (map (λ d. d.name) p.variables)) (length-map p.players (λ d. d.name) ∙ two)
    ∙ ap (λ n. 2 + n) (length-map p.variables (λ d. d.name)) in
    record {
      players_few = omega arith;
      values_few = omega arith;
      pieces_few = omega (arith, ltb-false 64 (length known.pieces) c.1);
      vertices_few = omega (arith, ltb-false 128 (length known.vertices) d.0);
      labels_few = omega (arith, ltb-false 64 (length known.labels) d.1);
    }

-- no bound and no number is over the limit
pub record HasFewNumbers (p : CodeParts) : Type 0 where
  pub players : list_any (λ d. has_large_bound (declaration_view d)) p.players.items ≡ false
  pub variables : list_any (λ d. has_large_bound (declaration_view d)) p.variables.items ≡ false
  pub steps : list_any is_large_number (parts_view p).steps ≡ false

pub no_large : (p : CodeParts) → has_large (parts_view p) ≡ false → HasFewNumbers p
no_large p h =
    let a = or_parts _ _ h in
    let b = or_parts _ _ a.0 in
    record {
      players = sym (any_map has_large_bound declaration_view p.players.items) ∙ b.0;
      variables = sym (any_map has_large_bound declaration_view p.variables.items) ∙ b.1;
      steps = a.1;
    }

-- no cause applies
pub record HasNoCause (known : Known) (p : Parts) : Type 0 where
  pub two : length p.players ≡ 2
  pub known_names : uses_unknown known p ≡ false
  pub names_once : repeats_name known p ≡ false
  pub no_large_number : has_large p ≡ false
  pub within_limits : is_past_a_limit known p ≡ false

pub no_cause : (known : Known) (p : Parts) → flat_cause known p ≡ None → HasNoCause known p
no_cause known p h =
    let a = passed (not (eqb (length p.players) 2)) _ _ h in
    let b = passed (uses_unknown known p) _ _ a.1 in
    let c = passed (repeats_name known p) _ _ b.1 in
    let d = passed (has_large p) _ _ c.1 in
    let e = passed (is_past_a_limit known p) _ _ d.1 in
    record {
      two = eqb-true (length p.players) 2 (not-false (eqb (length p.players) 2) a.0);
      known_names = b.0;
      names_once = c.0;
      no_large_number = d.0;
      within_limits = e.0;
    }
