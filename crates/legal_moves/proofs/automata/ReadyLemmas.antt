-- What the table of an expression says of its occurrences.
use Rattle.std.proofs.Common.{◌≡◌, ℕ, zero, suc, ◌+◌, ◌-◌, ◌<◌, ◌≤◌, Bool, true, false, List, [], ◌∷◌, length, take, get_or, Option, Some, None, slice_get, unwrap_or, Contains, refl, sym, ap, ◌∙◌, subst, arith}
use Rattle.std.specs.Bool.{OnTrue, OnFalse, MatchBool}
use mathlib.Core.Bool.{beq}
use Rattle.std.proofs.lemmas.Option.{slice_get-get_or}
use Rattle.rbg_game.specs.Rules.{Regex, empty, count, Action, pattern, action_at, is_switch, is_modifier}
use Rattle.rbg_game.specs.Games.{Game}
use Rattle.rbg_game.specs.Meaning.{action_of}
use Rattle.rbg_game.specs.Sound.{IsSoundRegex, IsSoundAction, LacksSwitch}
use Rattle.rbg_game.specs.Positions.{IsStateOf}
use Rattle.rbg_game.specs.declared.position.SemiState.{SemiState}
use Rattle.legal_moves.specs.Plain.{IsPlain}
use Rattle.legal_moves.specs.lemmas.VertexSearch.{at_vertex, IsLook, IsNoPattern, GlanceTells, TellsAt}
use Rattle.legal_moves.specs.declared.effect.Glance.{Glance}
use Rattle.legal_moves.specs.declared.effect.Glance.TheVariants.{Fails, At, Writes}
use Rattle.std.specs.Option.{IfSome, IfNone}
use Rattle.legal_moves.specs.Effects.{Effect, EffectAt}
use Rattle.legal_moves.specs.Glushkov.{IsNextAt, IsLast}
use Rattle.legal_moves.specs.NumberLists.{AreListed, list_at}
use Rattle.legal_moves.specs.Searches.{IsWideFrom}
use Rattle.legal_moves.specs.lemmas.Searches.{IsLegal}
use Rattle.legal_moves.specs.Tables.{is_pattern, actions_of, IsStep, IsExpressionTable}
use Rattle.legal_moves.specs.Jumps.{label_in}
use Rattle.legal_moves.specs.lemmas.Tables.{switches, modifies}
use Rattle.legal_moves.specs.lemmas.Walks.{step_label}
use Rattle.legal_moves.specs.Configurations.{expressions_of}
use Rattle.legal_moves.specs.lemmas.Configurations.{expression_at, IsReady, AsksTooMuch}
use Rattle.rbg_game.specs.declared.rules.Action.{Action as ProgramAction}
use Rattle.legal_moves.specs.declared.automaton.table.Step.{Step}
use Rattle.legal_moves.specs.declared.automaton.table.Step.TheVariants.{Act, Ask}
use Rattle.legal_moves.specs.declared.automaton.table.Table.{Table}
use Rattle.legal_moves.proofs.EffectLemmas.{EffectAt-by_action, action-by_EffectAt}
use Rattle.legal_moves.proofs.automata.EndsLemmas.{contains_last}
use Rattle.legal_moves.proofs.SoundLemmas.{plain}
use Rattle.legal_moves.proofs.automata.StepLemmas.{length_actions, action_at-by_list, length_steps, zip_at, sound_at, whole_at}

-- an element that was read
pub read_at : {A : Type 0} (xs : List A) (i : ℕ) (x : A) → i < length xs → x ≡ get_or xs i x → slice_get xs i ≡ Some x
read_at xs i x within is = slice_get-get_or xs i x within ∙ ap Some (sym is)

take_at : {A : Type 0} (n : ℕ) (xs : List A) (i : ℕ) (x : A) → slice_get (take n xs) i ≡ Some x → (i < n) × (slice_get xs i ≡ Some x)
take_at zero xs i x h = absurd (cc)
take_at (suc n) [] i x h = absurd (cc)
take_at (suc n) (y ∷ xs) zero x h = (omega arith, h)
take_at (suc n) (y ∷ xs) (suc i) x h = let r = take_at n xs i x h in (omega (arith, r.0), r.1)

pub get_within : (es : List Regex) (i : ℕ) → i < length es → slice_get es i ≡ Some (unwrap_or (slice_get es i) empty)
get_within [] i h = absurd (omega (arith, h))
get_within (e ∷ es) zero h = refl
get_within (e ∷ es) (suc i) h = get_within es i (omega (arith, h))

pub step_switches : (es : List Regex) (s : Step) (a : Action) → IsStep es s a → switches s ≡ is_switch (Some a)
step_switches es (Act x) a h = ap (λ b. is_switch (Some b)) h.0
step_switches es (Ask positive i) a h = sym (ap (λ b. is_switch (Some b)) h.2)

pub step_modifies : (es : List Regex) (s : Step) (a : Action) → IsStep es s a → modifies s ≡ is_modifier (Some a)
step_modifies es (Act x) a h = ap (λ b. is_modifier (Some b)) h.0
step_modifies es (Ask positive i) a h = sym (ap (λ b. is_modifier (Some b)) h.2)

step_labels : (es : List Regex) (s : Step) (a : Action) → IsStep es s a → step_label s ≡ label_in (Some a)
step_labels es (Act x) a h = ap (λ b. label_in (Some b)) h.0
step_labels es (Ask positive i) a h = sym (ap (λ b. label_in (Some b)) h.2)

OnTrue-by : (r : Bool) (P Q : Type 0) → (P → Q) → OnTrue r P → OnTrue r Q
OnTrue-by true P Q f h = f h
OnTrue-by false P Q f h = tt

OnFalse-by : (r : Bool) (P Q : Type 0) → (P → Q) → OnFalse r P → OnFalse r Q
OnFalse-by true P Q f h = tt
OnFalse-by false P Q f h = f h

module _ (game : Game) (tables : List Table) (index : ℕ) (ready : IsReady game tables index) where
  pub expression_there : slice_get (expressions_of game) index ≡ Some (expression_at game index)
  expression_there = get_within (expressions_of game) index (omega (arith, ready.within, ready.tables_are.as_many))

  module _ (table : Table) (table_at : slice_get tables index ≡ Some table) where
    pub is_table : IsExpressionTable (take index (expressions_of game)) table (expression_at game index)
    is_table = ready.tables_are.each index table (expression_at game index) table_at expression_there

    pub count_steps : length table.steps.items ≡ count (expression_at game index)
    count_steps = length_steps _ table.steps.items (actions_of (expression_at game index)) is_table.steps_are ∙ length_actions (expression_at game index)

    -- the numbers that can stand next
    pub followers_listed : (p : ℕ) → AreListed (IsNextAt (expression_at game index) p) (list_at table.follows.items p)
    followers_listed p = is_table.follows_are p

    pub contains_ends : (k : ℕ) → (Contains table.ends.last.items k → IsLast (expression_at game index) 1 k)
        × (IsLast (expression_at game index) 1 k → Contains table.ends.last.items k)
    contains_ends k = subst (λ xs. (Contains xs k → IsLast (expression_at game index) 1 k)
        × (IsLast (expression_at game index) 1 k → Contains xs k)) (sym is_table.ends_are.last_is) (contains_last (expression_at game index) 1 k)

    module _ (number : ℕ) (from : 1 ≤ number) (step : Step) (step_at : slice_get table.steps.items (number - 1) ≡ Some step) where
      -- the action that the step does
      pub record HasAction : Type 0 where
        pub action : Action
        pub action_is : action_at (expression_at game index) 1 number ≡ Some action
        pub step_is : IsStep (take index (expressions_of game)) step action

      pub has_action : HasAction
      has_action =
          let found = zip_at _ table.steps.items (actions_of (expression_at game index)) is_table.steps_are (number - 1) step step_at in
          let same : 1 + (number - 1) ≡ number = omega arith in
          record {
            action = found.0;
            action_is = subst (λ m. action_at (expression_at game index) 1 m ≡ Some found.0) same
                (action_at-by_list (expression_at game index) found.0 1 (number - 1) found.1);
            step_is = found.2;
          }

      pub switches_is : switches step ≡ is_switch (action_at (expression_at game index) 1 number)
      switches_is = step_switches (take index (expressions_of game)) step has_action.action has_action.step_is ∙ ap is_switch (sym has_action.action_is)

      pub modifies_is : modifies step ≡ is_modifier (action_at (expression_at game index) 1 number)
      modifies_is = step_modifies (take index (expressions_of game)) step has_action.action has_action.step_is ∙ ap is_modifier (sym has_action.action_is)

      pub label_there : step_label step ≡ label_in (action_at (expression_at game index) 1 number)
      label_there = step_labels (take index (expressions_of game)) step has_action.action has_action.step_is ∙ ap label_in (sym has_action.action_is)

      good : IsSoundAction game has_action.action
      good = sound_at game (expression_at game index) 1 number has_action.action ready.expression_is has_action.action_is

      -- ---- an action other than a pattern
      module _ (x : ProgramAction) (is : step ≡ Act x) where
        acts : (action_of x ≡ has_action.action) × (is_pattern has_action.action ≡ false)
        acts = subst (λ s. IsStep (take index (expressions_of game)) s has_action.action) is has_action.step_is

        pub act_plain : (S : SemiState) → IsStateOf game S → IsPlain S.values.items (action_of x)
        act_plain S state =
            subst (IsPlain S.values.items) (sym acts.0)
            (plain game S state has_action.action (λ positive e same. let never : true ≡ false = sym (ap is_pattern same) ∙ acts.1 in cc) good)

        at_number : action_at (expression_at game index) 1 number ≡ Some (action_of x)
        at_number = has_action.action_is ∙ ap Some (sym acts.0)

        pub act_valid : (S T : SemiState) (r : Bool) → OnTrue r (Effect game (action_of x) S T)
            → OnTrue r (EffectAt game (expression_at game index) 1 number S T)
        act_valid S T r = OnTrue-by r _ _ (EffectAt-by_action game (expression_at game index) 1 number (action_of x) S T at_number)

        pub act_refused : (S : SemiState) (r : Bool) → OnFalse r ((T : SemiState) → ¬ Effect game (action_of x) S T)
            → OnFalse r ((U : SemiState) → ¬ EffectAt game (expression_at game index) 1 number S U)
        act_refused S r = OnFalse-by r _ _
            (λ never U step'. let a = action-by_EffectAt game (expression_at game index) 1 number S U step' in
            never U (subst (λ b. Effect game b S U) (same a.0 a.1) a.2))
          where
            same : (b : Action) → action_at (expression_at game index) 1 number ≡ Some b → b ≡ action_of x
            same b h = let both : Some b ≡ Some (action_of x) = sym h ∙ at_number in cc

        act_never : (S : SemiState) → ((T : SemiState) → ¬ Effect game (action_of x) S T) → (U : SemiState)
            → ¬ EffectAt game (expression_at game index) 1 number S U
        act_never S never = act_refused S false never

        pub act_some : (S : SemiState) (o : Option SemiState) → IfSome o (Effect game (action_of x) S)
            → IfSome o (EffectAt game (expression_at game index) 1 number S)
        act_some S None h = h
        act_some S (Some T) h = EffectAt-by_action game (expression_at game index) 1 number (action_of x) S T at_number h

        pub act_none : (S : SemiState) (o : Option SemiState) → IfNone o ((T : SemiState) → ¬ Effect game (action_of x) S T)
            → IfNone o ((U : SemiState) → ¬ EffectAt game (expression_at game index) 1 number S U)
        act_none S None h = act_never S h
        act_none S (Some T) h = h

        pub act_tells : (S : SemiState) (g : Glance) → GlanceTells game (action_of x) S g → TellsAt game (expression_at game index) number S g
        act_tells S Fails h = act_never S h
        act_tells S (At v) h = (
          EffectAt-by_action game (expression_at game index) 1 number (action_of x) S (at_vertex S v) at_number h.0,
          subst IsLook (sym at_number) h.1,
        )
        act_tells S Writes h = subst IsNoPattern (sym at_number) h.0

        pub act_narrow : (S : SemiState) → ¬ AsksTooMuch game (expression_at game index) number S
        act_narrow S asks =
            let both : Some (pattern asks.0 asks.1) ≡ Some has_action.action = sym asks.2 ∙ has_action.action_is in
            let same : pattern asks.0 asks.1 ≡ has_action.action = cc in
            let never : true ≡ false = ap is_pattern same ∙ acts.1 in
            cc

      -- ---- a pattern
      module _ (positive : Bool) (i : ℕ) (is : step ≡ Ask positive i) where
        asks : (e : Regex) × (slice_get (take index (expressions_of game)) i ≡ Some e) × (has_action.action ≡ pattern positive e)
        asks = subst (λ s. IsStep (take index (expressions_of game)) s has_action.action) is has_action.step_is

        place_of : (i < index) × (slice_get (expressions_of game) i ≡ Some asks.0)
        place_of = take_at index (expressions_of game) i asks.0 asks.1

        inner_is : expression_at game i ≡ asks.0
        inner_is = ap (λ o. unwrap_or o empty) place_of.1

        pub ask_before : i < index
        ask_before = place_of.0

        pub ask_is : action_at (expression_at game index) 1 number ≡ Some (pattern positive (expression_at game i))
        ask_is = has_action.action_is ∙ ap Some (asks.2 ∙ ap (pattern positive) (sym inner_is))

        sound_pattern : LacksSwitch (expression_at game i) × IsSoundRegex game (expression_at game i)
        sound_pattern = sound_at game (expression_at game index) 1 number (pattern positive (expression_at game i)) ready.expression_is ask_is

        pub ask_pattern : ¬ IsNoPattern (action_at (expression_at game index) 1 number)
        ask_pattern none = let plain = subst IsNoPattern ask_is none in let never : true ≡ false = plain in cc

        pub ask_lacks : LacksSwitch (expression_at game i)
        ask_lacks = sound_pattern.0

        pub ask_ready : IsReady game tables i
        ask_ready = record {
          sound = ready.sound;
          tables_are = ready.tables_are;
          within = omega (arith, ask_before, ready.within);
          expression_is = sound_pattern.1;
          small = omega (arith, whole_at (expression_at game index) 1 number (pattern positive (expression_at game i)) ask_is, ready.small);
        }

        pub ask_narrow : (S : SemiState) → ¬ IsWideFrom game (expression_at game i) 0 S → ¬ AsksTooMuch game (expression_at game index) number S
        ask_narrow S narrow h =
            let both : Some (pattern h.0 h.1) ≡ Some (pattern positive (expression_at game i)) = sym h.2 ∙ ask_is in
            let same : h.1 ≡ expression_at game i = cc in
            narrow (subst (λ e. IsWideFrom game e 0 S) same h.3)

        pub ask_wide : (S : SemiState) → IsWideFrom game (expression_at game i) 0 S → AsksTooMuch game (expression_at game index) number S
        ask_wide S wide = (positive, expression_at game i, ask_is, wide)

        holds_by : (S : SemiState) (b p : Bool) → MatchBool b (IsLegal game (expression_at game i) S)
            (¬ IsLegal game (expression_at game i) S) → b ≡ p → MatchBool p (IsLegal game (expression_at game i) S) (¬ IsLegal game (expression_at game i) S)
        holds_by S b p h same = subst (λ t. MatchBool t (IsLegal game (expression_at game i) S) (¬ IsLegal game (expression_at game i) S)) same h

        -- both answers cannot be right
        not_both : (S : SemiState) (b p : Bool) → MatchBool b (IsLegal game (expression_at game i) S)
            (¬ IsLegal game (expression_at game i) S) → MatchBool p (IsLegal game (expression_at game i) S) (¬ IsLegal game (expression_at game i) S) → b ≡ p
        not_both S true true h k = refl
        not_both S true false h k = absurd (k h)
        not_both S false true h k = absurd (h k)
        not_both S false false h k = refl

        pub ask_valid : (S : SemiState) (b r : Bool) → MatchBool b (IsLegal game (expression_at game i) S)
            (¬ IsLegal game (expression_at game i) S) → (r ≡ true → b ≡ positive) → OnTrue r (EffectAt game (expression_at game index) 1 number S S)
        ask_valid S b true h e = EffectAt-by_action game (expression_at game index) 1 number
            (pattern positive (expression_at game i)) S S ask_is (refl, holds_by S b positive h (e refl))
        ask_valid S b false h e = tt

        pub ask_refused : (S : SemiState) (b r : Bool) → MatchBool b (IsLegal game (expression_at game i) S)
            (¬ IsLegal game (expression_at game i) S) → (b ≡ positive → r ≡ true)
            → OnFalse r ((U : SemiState) → ¬ EffectAt game (expression_at game index) 1 number S U)
        ask_refused S b true h e = tt
        ask_refused S b false h e = λ U step'. let a = action-by_EffectAt game (expression_at game index) 1 number S U step' in
            let both : Some a.0 ≡ Some (pattern positive (expression_at game i)) = sym a.1 ∙ ask_is in
            let same : a.0 ≡ pattern positive (expression_at game i) = cc in
            let effect : Effect game (pattern positive (expression_at game i)) S U = subst (λ x. Effect game x S U) same a.2 in
            let never : false ≡ true = e (not_both S b positive h effect.1) in
            cc

        pub ask_some : (S : SemiState) (b : Bool) → MatchBool b (IsLegal game (expression_at game i) S)
            (¬ IsLegal game (expression_at game i) S) → b ≡ positive → EffectAt game (expression_at game index) 1 number S S
        ask_some S b h same = ask_valid S b true h (λ _. same)

        pub ask_none : (S : SemiState) (b : Bool) → MatchBool b (IsLegal game (expression_at game i) S)
            (¬ IsLegal game (expression_at game i) S) → ¬ (b ≡ positive) → (U : SemiState) → ¬ EffectAt game (expression_at game index) 1 number S U
        ask_none S b h differ = ask_refused S b false h (λ same. absurd (differ same))

        pub ask_look : IsLook (action_at (expression_at game index) 1 number)
        ask_look = subst IsLook (sym ask_is) (refl, refl)

pub OnTrue-at : (r : Bool) (P : Type 0) → r ≡ true → OnTrue r P → P
OnTrue-at true P e h = h
OnTrue-at false P e h = absurd (cc)

pub OnFalse-at : (r : Bool) (P : Type 0) → r ≡ false → OnFalse r P → P
OnFalse-at true P e h = absurd (cc)
OnFalse-at false P e h = h

pub beq_true : (a b : Bool) → beq a b ≡ true → a ≡ b
beq_true true true e = refl
beq_true true false e = absurd (cc)
beq_true false true e = absurd (cc)
beq_true false false e = refl

pub beq_same : (a b : Bool) → a ≡ b → beq a b ≡ true
beq_same true true e = refl
beq_same true false e = absurd (cc)
beq_same false true e = absurd (cc)
beq_same false false e = refl
