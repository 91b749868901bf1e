-- The table of a game that was just loaded agrees with itself.
use Rattle.std.proofs.Common.{◌≡◌, ◌∙◌, sym, ap, subst, ℕ, zero, suc, inl, true, false, Option, Some, None, IsSome, refl, arith, slice_get}
use Rattle.std.proofs.lemmas.Option.{same_Some}
use Rattle.rbg_game.specs.declared.roles.Player.{Player}
use Rattle.retrograde.specs.declared.records.State.TheVariants.{Known}
use Rattle.retrograde.specs.declared.records.Record.{Record}
use Rattle.retrograde.specs.Graph.{Graph}
use Rattle.retrograde.specs.Stored.{Stored, HasRecord, FitsState, IsTable, is_expanded, view_of, loaded}
use Rattle.retrograde.specs.Sound.{IsLocallySound}
use Rattle.retrograde.specs.Changes.{fresh_record}

module _ {P : Type 0} (graph : Graph P) (IsWide : P → Type 0) where
  abbrev fresh : Stored P
  fresh = loaded graph.start

  one_record : (i : ℕ) (r : Record) → HasRecord fresh i r → fresh_record ≡ r
  one_record zero r has = same_Some fresh_record r has
  one_record (suc i) r has = cc

  only_zero : (i : ℕ) (x : P) → slice_get fresh.positions i ≡ Some x → (i ≡ 0) × (x ≡ graph.start)
  only_zero zero x at = (refl, sym (same_Some graph.start x at))
  only_zero (suc i) x at = cc

  no_value : (i : ℕ) → (view_of fresh).value i ≡ None
  no_value zero = refl
  no_value (suc i) = refl

  not_processed : (i : ℕ) → (view_of fresh).processed i ≡ false
  not_processed zero = refl
  not_processed (suc i) = refl

  table : IsTable fresh
  table = record {
    started = omega arith;
    records = refl;
    distinct = λ i j x here there. (only_zero i x here).0 ∙ sym (only_zero j x there).0;
    states = λ i r has. subst (λ (q : Record). FitsState q.state q) (one_record i r has) (refl, refl, refl, refl);
    expanded = λ i r has. (
      (λ is. let e : is_expanded Known ≡ true = ap (λ (q : Record). is_expanded q.state) (one_record i r has) ∙ is in cc),
      (λ lt. absurd (omega arith)),
    );
    listed = λ i some. let e : IsSome {T = Player × ℕ} None = subst (λ (o : Option (Player × ℕ)). IsSome o) (no_value i) some in cc;
    settled = λ k i at. cc;
    counted = refl;
    once = λ j k i here there. cc;
    processed = λ k i at. cc;
    edges = λ i j is. cc;
  }

  pub loaded_sound : IsLocallySound graph IsWide fresh
  loaded_sound = record {
    narrow = λ i x number lt. absurd (omega arith);
    table = table;
    each = λ i x number. record {
      reached = inl (only_zero i x number);
      edges = record { from_it = λ lt. absurd (omega arith); to_it = λ p is. cc };
      late = λ is. let no_way : true ≡ false = sym is ∙ not_processed i in cc;
      no_nearer = λ k j v w m n here there a b. cc;
      ended = λ lt is. absurd (omega arith);
      moving = λ lt has. absurd (omega arith);
      waiting = λ le. no_value i;
    };
  }
