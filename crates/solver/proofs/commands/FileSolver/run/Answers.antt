use Rattle.std.proofs.Common.{◌≡◌, ℕ, ◌+◌, ◌-◌, ◌<◌, ◌≤◌, ◌==◌, true, false, ⊎_elim, List, [], ◌∷◌, length, length-append, ap, sym, ◌∙◌, arith, rules, refl}
use Rattle.std.specs.Vec.{vec_len, vec_capacity}
use Rattle.std.proofs.lemmas.Bool.Decides.{eqb_tells}
use Rattle.std.proofs.lemmas.List.{take_all}
use Rattle.solver.proofs.Frames.{left_here, left_then}
use Rattle.solver.proofs.Prefixes.{stopped_run}
use Rattle.solver.proofs.Turns.{run_begins, run_goes_on}
use Rattle.solver.proofs.Exits.{passed_on, gives_none}
use Rattle.solver.proofs.commands.FileSolver.run.Goals as goal

-- there is room for all that is still to come
no_room_left : (some all index room : ℕ) → some + (all - index) ≤ room → index < all → room ≤ some → ⊥
no_room_left some all index room fits less full = omega arith

nothing_in : {A : Type 0} (xs : List A) → length xs ≡ 0 → xs ≡ []
nothing_in [] none = refl
nothing_in (x ∷ xs) none = absurd (omega (arith, none))

no_commands : {A : Type 0} (xs : List A) → (length xs == 0) ≡ true → xs ≡ []
no_commands xs is =
    ⊎_elim
    (λ (_, none). nothing_in xs none)
    (λ (fails, _). let both : true ≡ false = sym is ∙ fails in cc)
    (eqb_tells (length xs) 0)

some_there : {A : Type 0} (xs : List A) → (length xs == 0) ≡ false → xs ≡ [] → ⊥
some_there [] some none = let it : true ≡ false = some in absurd (cc)
some_there (x ∷ xs) some none = absurd (cc)

pub returns-then-is_empty-clause-stopped : goal.returns-then-is_empty-clause-stopped
returns-then-is_empty-clause-stopped g c = λ ready sound is_open honest.
    let none : c.args.commands.now ≡ [] = no_commands c.args.commands.now (sym c.is_empty.ensures ∙ c.if-is_empty.true) in
    stopped_run _ c.args.commands.now [] _ _ _ _ (sym none)
    (run_begins _ c.args.replies.now.items _ (λ honest is_open. g.met.F.GameFile.whole_leaves c.args.self.now.file ready.0 honest is_open)) honest is_open sound

pub returns-then-is_empty-clause-left : goal.returns-then-is_empty-clause-left
returns-then-is_empty-clause-left g c =
    let file = c.args.self.now.file in
    let on = g.met.F.Table.stays_goes_on file file (g.met.F.Table.stays_here file) in
    left_here c.args.self.now (g.met.F.GameFile.goes_on_lasts file file on) (g.met.F.GameFile.goes_ahead file file on)

pub returns-then-is_empty-clause-err : goal.returns-then-is_empty-clause-err
returns-then-is_empty-clause-err g c = record { fault = tt; refused = tt; unanswered = tt; none = λ none. (refl, refl, refl) }

pub loop-command-preserved : goal.loop-command-preserved
loop-command-preserved g c =
    let so_far = c.loop-command.invariant in
    let reply = c.answer-reply.ensures in
    let pushed = c.in_ok-push.ensures in
    record {
      room = omega (arith, so_far.room, pushed.len, pushed.capacity, c.loop-command-test.true);
      many =
          let longer : length c.push.new.self.items ≡ length c.loop-command.replies.items + 1 = ap length pushed.items
          ∙ length-append c.loop-command.replies.items (c.answer-reply.result ∷ []) in
          omega (arith, longer, so_far.many);
      left = left_then g.met.F.GameFile.lasts_then so_far.left reply.left;
      run = λ ready.
          run_goes_on _ c.args.commands.now c.loop-command.command-index c.command-item.result c.answer-reply.result c.args.replies.now.items c.loop-command.replies.items
          c.push.new.self.items _ _ _ c.loop-command-test.true c.command-item.is pushed.items (so_far.run ready) (reply.turn (so_far.left.ready ready));
    }

pub loop-command-init : goal.loop-command-init
loop-command-init g c = record {
  room = search rules;
  many = let same : length c.reserve.new.self.items ≡ length c.args.replies.now.items = ap length c.in_ok-reserve.ensures.items in omega (arith, same);
  left =
      let file = c.args.self.now.file in
      let on = g.met.F.Table.stays_goes_on file file (g.met.F.Table.stays_here file) in
      left_here c.args.self.now (g.met.F.GameFile.goes_on_lasts file file on) (g.met.F.GameFile.goes_ahead file file on);
  run = λ ready. rw c.in_ok-reserve.ensures.items
      (run_begins _ c.args.replies.now.items _ (λ honest is_open. g.met.F.GameFile.whole_leaves c.args.self.now.file ready.0 honest is_open));
}

pub offset_bounds-commands-command-index : goal.offset_bounds-commands-command-index
offset_bounds-commands-command-index g c = search rules

pub returns-clause-stopped : goal.returns-clause-stopped
returns-clause-stopped g c = λ ready sound is_open honest.
    let so_far = c.loop-command.invariant in
    stopped_run _ c.args.commands.now _ _ _ _ _ (take_all c.loop-command.command-index c.args.commands.now c.loop-command-test.false)
    (so_far.run ready) honest is_open sound

pub returns-clause-each : goal.returns-clause-each
returns-clause-each g c = omega (arith, c.loop-command.invariant.many, c.loop-command-test.false, c.loop-command-test.false)

pub returns-clause-run : goal.returns-clause-run
returns-clause-run g c = λ ready. rw (take_all c.loop-command.command-index c.args.commands.now c.loop-command-test.false) at c.loop-command.invariant.run ready

pub returns-clause-left : goal.returns-clause-left
returns-clause-left g c = c.loop-command.invariant.left

pub returns-clause-err : goal.returns-clause-err
returns-clause-err g c = record {
  fault = tt;
  refused = tt;
  unanswered = tt;
  none = λ none. absurd (some_there c.args.commands.now (sym c.is_empty.ensures ∙ c.if-is_empty.false) none);
}

pub returns-in_err-reserve : goal.returns-in_err-reserve
returns-in_err-reserve g c = record {
  run = λ ready. gives_none c.from_residual.result _ _ c.from_residual.ensures;
  stopped = λ ready sound is_open honest. gives_none c.from_residual.result _ _ c.from_residual.ensures;
  each = gives_none c.from_residual.result _ _ c.from_residual.ensures;
  left =
      let file = c.args.self.now.file in
      let on = g.met.F.Table.stays_goes_on file file (g.met.F.Table.stays_here file) in
      left_here c.args.self.now (g.met.F.GameFile.goes_on_lasts file file on) (g.met.F.GameFile.goes_ahead file file on);
  err = record {
    fault = passed_on _ c.from_residual.result _ c.from_residual.ensures refl;
    refused = passed_on _ c.from_residual.result _ c.from_residual.ensures refl;
    unanswered = passed_on _ c.from_residual.result _ c.from_residual.ensures c.reserve.ensures.items;
    none = λ none. absurd (some_there c.args.commands.now (sym c.is_empty.ensures ∙ c.if-is_empty.false) none);
  };
}

pub returns-in_err-push : goal.returns-in_err-push
returns-in_err-push g c =
    absurd (no_room_left (vec_len c.loop-command.replies) (length c.args.commands.now) c.loop-command.command-index (vec_capacity c.loop-command.replies)
    c.loop-command.invariant.room c.loop-command-test.true c.in_err-push.ensures.full)
