-- A certificate that shows what it claims is refused for want of memory, or for a search that is too wide, and for nothing else.
use Rattle.std.proofs.Common.{◌≡◌, ◌∙◌, ap, sym, subst, refl, ℕ, zero, suc, ◌<◌, ◌^◌, ◌⊎◌, inl, inr, Option, List, [], ◌∷◌, ◌++◌, length, map, drop, get_or, All, codes, append_assoc, append-nil, arith}
use Rattle.std.specs.Prelude.{Contains, option_map, slice_get, unwrap_or}
use Rattle.std.specs.Fmt.{decimal}
use Rattle.std.proofs.lemmas.List.{append_cancel_left, get_or_at, length-append, length-map}
use Rattle.std.proofs.lemmas.List.Elements.{All-contains}
use Rattle.rbg_text.specs.Token.{Text}
use Rattle.rbg_game.specs.Games.{Game, Variable}
use Rattle.rbg_game.specs.Names.{HasProperNames}
use Rattle.rbg_game.specs.Sound.{IsSoundGame}
use Rattle.rbg_game.specs.declared.position.Position.{Position}
use Rattle.rbg_game.specs.declared.roles.Player.{Player}
use Rattle.rbg_game.specs.declared.roles.Player.TheVariants.{First, Second}
use Rattle.rbg_game.specs.declared.roles.Role.TheVariants as role
use Rattle.position_pack.specs.Packings.{packed_by}
use Rattle.position_pack.specs.Shape.{shape_of}
use Rattle.position_pack.specs.Spelled.{IsSpelled}
use Rattle.position_pack.specs.Texts.{role_text}
use Rattle.position_pack.specs.declared.kind.PackingKind.TheVariants.{Bits}
use Rattle.position_pack.proofs.TellLemmas.{Lacks, role_lacks, told}
use Rattle.rbg_read.specs.Reads.{Fault, Reads}
use Rattle.rbg_read.proofs.OneGame.{no_fault, one_game}
use Rattle.rbg_read.proofs.ProperNames.{proper}
use Rattle.rbg_read.proofs.SoundGames.{read_sound}
use Rattle.retrograde.specs.Graph.{Graph}
use Rattle.legal_moves.specs.Sources.{IsPositionBytes, IsWideAt, graph_of}
use Rattle.certificate.specs.Answers.{IsCertificateAnswer, refusal_line}
use Rattle.certificate.specs.Answers.{IsCertificateAnswer as answer}
use Rattle.certificate.specs.Claims.{IsTheGiven, value_text}
use Rattle.certificate.specs.Format.{AreLines, Beginning, Begins, HasLists, IsLine, Line, first_lines, first_manner, line_text, second_lines, second_manner}
use Rattle.certificate.specs.Refusals.{AreUnread, Claims, ReadingComesTo, IsClaimCounted, IsCertificateRefused, IsUnclaimed}
use Rattle.certificate.specs.Refusals.{AreUnread as unread}
use Rattle.certificate.specs.Refusals.{ReadingComesTo as comes}
use Rattle.certificate.specs.Refusals.{IsCertificateRefused as refused}
use Rattle.certificate.specs.Refusals.{IsUnclaimed as unclaimed}
use Rattle.certificate.specs.Right.{AreShown, ShowsItsClaim}
use Rattle.certificate.specs.Shown.{AreNarrow, Follows, IsList, IsSearched, IsUnshown, ShowsRank, claimed_moves}
use Rattle.certificate.specs.Shown.{IsUnfollowed as unfollowed}
use Rattle.certificate.specs.Shown.{IsUnshown as unshown}
use Rattle.certificate.specs.lemmas.Parts.{EndsList}
use Rattle.certificate.specs.declared.claim.Claimed.{Claimed}
use Rattle.certificate.specs.declared.claim.Claimed.TheVariants.{Won, Drawn}
use Rattle.certificate.specs.declared.fault.CertificateFault.{CertificateFault}
use Rattle.certificate.specs.declared.fault.CertificateFault.TheVariants.{TooWide, OutOfMemory}
use Rattle.certificate.specs.declared.manner.Manner.{Manner}
use Rattle.certificate.proofs.HeadLemmas.{one_beginning}
use Rattle.certificate.proofs.LineLemmas.{cut_first, decimal_tells, gone}
use Rattle.certificate.proofs.ListLemmas.{goes_on, line_tells, one_list}

-- ---- values

first_variable : (vs : List Variable) (k : ℕ) → unwrap_or (option_map (λ v. v.name) (slice_get vs k)) [] ≡ get_or (map (λ v. v.name) vs) k []
first_variable [] k = refl
first_variable (v ∷ vs) zero = refl
first_variable (v ∷ vs) (suc k) = first_variable vs k

module _ (game : Game) (sound : IsSoundGame game) (names : HasProperNames game) where
  names_differ : role_text game (role.Player First) ≡ role_text game (role.Player Second) → ⊥
  names_differ same =
      names.variables_differ 0 1 [] (omega arith) (omega (arith, sound.has_players, length-map game.variables (λ v. v.name)))
      (sym (first_variable game.variables 0) ∙ same ∙ first_variable game.variables 1)

  one_player : (v w : Player) → role_text game (role.Player v) ≡ role_text game (role.Player w) → v ≡ w
  one_player First First same = refl
  one_player Second Second same = refl
  one_player First Second same = absurd (names_differ same)
  one_player Second First same = absurd (names_differ (sym same))

  opened : (w : Player) (n : ℕ) → value_text game (Won w n) ≡ role_text game (role.Player w) ++ (32 ∷ (codes "in " ++ decimal n))
  opened w n = append_assoc (role_text game (role.Player w)) (codes " in ") (decimal n)

  no_blank : Lacks 32 (codes "drawn")
  no_blank = (omega arith, (omega arith, (omega arith, (omega arith, (omega arith, tt)))))

  -- a value tells what is claimed
  one_claim : (c d : Claimed) → IsClaimCounted c → IsClaimCounted d → value_text game c ≡ value_text game d → c ≡ d
  one_claim Drawn Drawn hc hd same = refl
  one_claim (Won v m) Drawn hc hd same =
      absurd (gone 32 (codes "drawn") (role_text game (role.Player v)) (codes "in " ++ decimal m) no_blank (sym same ∙ opened v m))
  one_claim Drawn (Won w n) hc hd same =
      absurd (gone 32 (codes "drawn") (role_text game (role.Player w)) (codes "in " ++ decimal n) no_blank (same ∙ opened w n))
  one_claim (Won v m) (Won w n) hc hd same =
      let parts = cut_first 32 (role_text game (role.Player v)) (role_text game (role.Player w)) (codes "in " ++ decimal m) (codes "in " ++ decimal n)
      (role_lacks game sound names (role.Player v)) (role_lacks game sound names (role.Player w)) (sym (opened v m) ∙ same ∙ opened w n) in
      let player = one_player v w parts.0 in
      let moves = decimal_tells m n hc hd (append_cancel_left (codes "in ") (decimal m) (decimal n) parts.1) in
      λ i. Won (player i) (moves i)

-- ---- lists

module _ (game : Game) (claimed : Claimed) (behind : List ℕ) (first second : List Line) (has : HasLists game claimed behind first second) where
  -- there is one pair of lists
  one_pair : (one two : List Line) → HasLists game claimed behind one two → (one ≡ first) × (two ≡ second)
  one_pair one two other =
      let fronts = one_list (first_manner claimed) one first (second_lines game claimed two)
      (second_lines game claimed second) other.first_is.each has.first_is.each
      refl refl (ap (drop 2) (sym other.lines_are ∙ has.lines_are)) in
      let backs = one_list (second_manner claimed) two second [] [] other.second_is.each has.second_is.each tt tt
      (append-nil (map (line_text (second_manner claimed)) two) ∙ ap (drop 2) fronts.1 ∙ sym (append-nil (map (line_text (second_manner claimed)) second))) in
      (fronts.0, backs.0)

  there : (manner : Manner) (list before : List Line) (line : Line) (more rest : List (List ℕ)) → All (IsLine manner) list
      → All (IsLine manner) before → IsLine manner line
      → EndsList rest → map (line_text manner) before ++ line_text manner line ∷ more ≡ map (line_text manner) list ++ rest → Contains list line
  there manner list before line more rest hl hb is ends same =
      let found = goes_on manner list before (line_text manner line) more rest hl hb is.filled ends same in
      let one = line_tells manner found.line line found.is is found.text_is in
      subst (λ (all : List Line). Contains all line) (sym (found.list_is ∙ ap (λ (l : Line). before ++ l ∷ found.after) one))
      (length before, (let long = length-append before (line ∷ found.after) in omega arith), get_or_at before line found.after line (length before) refl)

  -- a line that reading comes to is one of them
  is_position : (line : Line) → ReadingComesTo game claimed behind line → All (λ (l : Line). IsPositionBytes Bits game l.at) first
      → All (λ (l : Line). IsPositionBytes Bits game l.at) second → IsPositionBytes Bits game line.at
  is_position line (comes.in_first before same more each is texts) firsts seconds =
      All-contains (λ (l : Line). IsPositionBytes Bits game l.at) first line firsts
      (there (first_manner claimed) first before line more (second_lines game claimed second) has.first_is.each each is refl
      (ap (drop 2) (sym texts ∙ has.lines_are)))
  is_position line (comes.in_second one before same more each_first each is texts) firsts seconds =
      let fronts = one_list (first_manner claimed) one first
      (second_lines game claimed before ++ line_text (second_manner claimed) line ∷ more) (second_lines game claimed second)
      each_first has.first_is.each refl refl
      (ap (drop 2) (sym (append_assoc (first_lines game claimed one) (second_lines game claimed before)
      (line_text (second_manner claimed) line ∷ more)) ∙ sym texts ∙ has.lines_are)) in
      All-contains (λ (l : Line). IsPositionBytes Bits game l.at) second line seconds
      (there (second_manner claimed) second before line more [] has.second_is.each each is tt
      (ap (drop 2) fronts.1 ∙ sym (append-nil (map (line_text (second_manner claimed)) second))))

module _ (graph : Graph (List ℕ)) (x : List ℕ) where
  -- each line follows
  follows : (claimed : Claimed) (first second : List Line) → AreLines (first_manner claimed) first → AreLines (second_manner claimed) second
      → AreShown graph claimed x first second → (manner : Manner) (w : Player) (list : List Line) → IsList claimed first second manner w list
      → (line : Line) → Contains list line → Follows graph manner w list line
  follows (Won v n) first second hf hs shown manner w list IsList.the_first line here = shown.0.0 line.at line.rank here
  follows (Won v n) first second hf hs shown manner w list IsList.the_second line here = shown.1.0 line.at line.rank here
  follows Drawn first second hf hs shown manner w list IsList.the_first line here =
      let rank = (All-contains (IsLine (first_manner Drawn)) first line hf.each here).rank in
      shown.0.0 line.at (inr (line.rank, here, omega arith))
  follows Drawn first second hf hs shown manner w list IsList.the_second line here =
      let rank = (All-contains (IsLine (second_manner Drawn)) second line hs.each here).rank in
      shown.1.0 line.at (inr (line.rank, here, omega arith))

  -- and x stands there
  shows : (claimed : Claimed) (first second : List Line) → AreShown graph claimed x first second → (manner : Manner) (w : Player) (list : List Line)
      → IsList claimed first second manner w list → ShowsRank manner list x (claimed_moves claimed)
  shows (Won v n) first second shown manner w list IsList.the_first = shown.0.1
  shows (Won v n) first second shown manner w list IsList.the_second = shown.1.1
  shows Drawn first second shown manner w list IsList.the_first = shown.0.1
  shows Drawn first second shown manner w list IsList.the_second = shown.1.1

-- ---- what is left of the causes

module _ (certificate : List ℕ) (given : Option Text) (s : ShowsItsClaim certificate given) where
  -- a search at one of its lines is too wide
  abbrev IsWideSomewhere : Type 0
  IsWideSomewhere = (manner : Manner) × (w : Player) × (list : List Line) × IsList s.claimed s.first s.second manner w list
      × ((line : Line) × Contains list line × (IsSearched manner line × IsWideAt Bits s.game line.at))

  abbrev IsAllowed : CertificateFault → Type 0
  IsAllowed fault = (IsWideSomewhere × (fault ≡ TooWide)) ⊎ (fault ≡ OutOfMemory)

  few : length certificate < 2 ^ 32
  few = let short = s.short in omega arith

  same_beginning : (b : Beginning) → Begins certificate b → b ≡ s.b
  same_beginning b begins = one_beginning certificate b s.b few begins s.claims.begins

  sound : IsSoundGame s.game
  sound = read_sound s.b.text s.game s.claims.reads

  names : HasProperNames s.game
  names = proper s.b.text s.game s.claims.reads

  not_unclaimed : (fault : CertificateFault) → IsUnclaimed s.game s.b.position s.b.value fault → ⊥
  not_unclaimed fault (unclaimed.no_position none) = none s.at s.claims.spelled
  not_unclaimed fault (unclaimed.no_value none) = none s.claimed s.claims.counted s.claims.named

  not_unread : (fault : CertificateFault) → AreUnread s.game s.claimed s.b.behind fault → IsAllowed fault
  not_unread fault (unread.no_lists none) = absurd (none s.first s.second s.has)
  not_unread fault (unread.no_position line reached none) =
      absurd (none (is_position s.game s.claimed s.b.behind s.first s.second s.has line reached s.first_are s.second_are))
  not_unread fault unread.no_memory = inr refl

  x : List ℕ
  x = packed_by Bits (shape_of s.game) s.at

  not_unshown : (fault : CertificateFault) → IsUnshown (graph_of Bits s.b.goal s.game)
      (IsWideAt Bits s.game) s.claimed x s.first s.second fault → IsAllowed fault
  unfolding x
  not_unshown fault (unshown.unfollowed manner w list same is_list (unfollowed.not_followed line here bad)) =
      absurd (bad (follows (graph_of Bits s.b.goal s.game) x s.claimed s.first s.second s.has.first_is s.has.second_is s.shown manner w list is_list line here))
  not_unshown fault (unshown.unfollowed manner w list same is_list (unfollowed.too_wide line here searched wide)) =
      inl ((manner, w, list, is_list, (line, here, (searched, wide))), refl)
  not_unshown fault (unshown.unfollowed manner w list same is_list unfollowed.no_memory) = inr refl
  not_unshown fault (unshown.not_there manner w list is_list bad) =
      absurd (bad (shows (graph_of Bits s.b.goal s.game) x s.claimed s.first s.second s.shown manner w list is_list))

  same_game : (b : Beginning) (game : Game) → b ≡ s.b → Reads b.text game → game ≡ s.game
  same_game b game b_is reads = one_game s.b.text game s.game (subst (λ (c : Beginning). Reads c.text game) b_is reads) s.claims.reads

  same_position : (b : Beginning) (game : Game) (at : Position) → b ≡ s.b → game ≡ s.game → IsSpelled game at b.position → at ≡ s.at
  same_position b game at b_is game_is spelled =
      let here = subst (λ (g : Game). IsSpelled g at s.b.position) game_is (subst (λ (c : Beginning). IsSpelled game at c.position) b_is spelled) in
      told s.game sound names at s.at here.position s.claims.spelled.position (sym here.text_is ∙ s.claims.spelled.text_is)

  same_value : (b : Beginning) (game : Game) (claimed : Claimed) → b ≡ s.b → game ≡ s.game → IsClaimCounted claimed
      → b.value ≡ value_text game claimed → claimed ≡ s.claimed
  same_value b game claimed b_is game_is counted named =
      one_claim s.game sound names claimed s.claimed counted s.claims.counted
      (ap (λ (g : Game). value_text g claimed) (sym game_is) ∙ sym named ∙ ap (λ (c : Beginning). c.value) b_is ∙ s.claims.named)

  module _ (b : Beginning) (game : Game) (at : Position) (claimed : Claimed) (claims : Claims certificate b game at claimed) where
    b_is : b ≡ s.b
    b_is = same_beginning b claims.begins

    game_is : game ≡ s.game
    game_is = same_game b game b_is claims.reads

    at_is : at ≡ s.at
    at_is = same_position b game at b_is game_is claims.spelled

    claimed_is : claimed ≡ s.claimed
    claimed_is = same_value b game claimed b_is game_is claims.counted claims.named

    -- what is so of what a certificate claims is so of that
    so_of_it : (Of : Beginning → Game → Position → Claimed → Type 0) → Of b game at claimed → Of s.b s.game s.at s.claimed
    so_of_it Of is =
        subst (λ (c : Claimed). Of s.b s.game s.at c) claimed_is (subst (λ (p : Position). Of s.b s.game p claimed) at_is
        (subst (λ (g : Game). Of s.b g at claimed) game_is (subst (λ (c : Beginning). Of c game at claimed) b_is is)))

    unread_is_allowed : (fault : CertificateFault) → AreUnread game claimed b.behind fault → IsAllowed fault
    unread_is_allowed fault why = not_unread fault (so_of_it (λ c g p d. AreUnread g d c.behind fault) why)

    unshown_is_allowed : (first second : List Line) (fault : CertificateFault) → HasLists game claimed b.behind first second
        → IsUnshown (graph_of Bits b.goal game) (IsWideAt Bits game) claimed (packed_by Bits (shape_of game) at) first second fault → IsAllowed fault
    unfolding x
    unshown_is_allowed first second fault has why =
        let lists = one_pair s.game s.claimed s.b.behind s.first s.second s.has first second (so_of_it (λ c g p d. HasLists g d c.behind first second) has) in
        let here = so_of_it
        (λ c g p d. IsUnshown (graph_of Bits c.goal g) (IsWideAt Bits g) d (packed_by Bits (shape_of g) p) first second fault) why in
        let one = subst (λ (l : List Line). IsUnshown (graph_of Bits s.b.goal s.game) (IsWideAt Bits s.game) s.claimed
        (packed_by Bits (shape_of s.game) s.at) l second fault) lists.0 here in
        not_unshown fault (subst (λ (l : List Line). IsUnshown (graph_of Bits s.b.goal s.game) (IsWideAt Bits s.game) s.claimed
        (packed_by Bits (shape_of s.game) s.at) s.first l fault) lists.1 one)

  -- each other cause is against it
  is_allowed : (fault : CertificateFault) → IsCertificateRefused certificate given fault → IsAllowed fault
  is_allowed fault (refused.too_long long) = let short = s.short in absurd (omega arith)
  is_allowed fault (refused.no_beginning none) = absurd (none s.b s.claims.begins)
  is_allowed fault (refused.no_game b why begins is) =
      absurd (no_fault s.b.text s.game why s.claims.reads (subst (λ (c : Beginning). Fault c.text why) (same_beginning b begins) is))
  is_allowed fault (refused.other_game b game begins reads other) =
      absurd (other (subst (λ (c : Beginning). IsTheGiven given c.text) (sym (same_beginning b begins)) s.is_given))
  is_allowed fault (refused.no_claim b game same begins reads why) =
      let first = same_beginning b begins in
      let second = same_game b game first reads in
      absurd (not_unclaimed same (subst (λ (g : Game). IsUnclaimed g s.b.position s.b.value same) second
      (subst (λ (c : Beginning). IsUnclaimed game c.position c.value same) first why)))
  is_allowed fault (refused.no_lists b game at claimed same claims why) = unread_is_allowed b game at claimed claims same why
  is_allowed fault (refused.not_shown b game at claimed first second same claims has why) =
      unshown_is_allowed b game at claimed claims first second same has why
  is_allowed fault refused.no_memory = inr refl

  -- it is certified, or refused for one of those two
  pub is_certified : (status : ℕ) (written : List ℕ) → IsCertificateAnswer certificate given status written
      → (status ≡ 0) ⊎ ((written ≡ refusal_line TooWide) ⊎ (written ≡ refusal_line OutOfMemory))
  is_certified status written (answer.certified value position looked is) = inl refl
  is_certified status written (answer.refused fault why) =
      elim (is_allowed fault why) [
        | inl wide ↦ inr (inl (ap refusal_line wide.1))
        | inr memory ↦ inr (inr (ap refusal_line memory))
      ]

  -- and if no search is too wide, only for want of memory
  not_wide : AreNarrow (IsWideAt Bits s.game) s.claimed s.first s.second → (manner : Manner) (w : Player) (list : List Line)
      → IsList s.claimed s.first s.second manner w list → (line : Line) → Contains list line → IsSearched manner line → ¬ IsWideAt Bits s.game line.at
  not_wide narrow manner w list IsList.the_first line here =
      All-contains (λ (l : Line). IsSearched (first_manner s.claimed) l → ¬ IsWideAt Bits s.game l.at) s.first line narrow.0 here
  not_wide narrow manner w list IsList.the_second line here =
      All-contains (λ (l : Line). IsSearched (second_manner s.claimed) l → ¬ IsWideAt Bits s.game l.at) s.second line narrow.1 here

  pub is_accepted : AreNarrow (IsWideAt Bits s.game) s.claimed s.first s.second → (status : ℕ) (written : List ℕ) → IsCertificateAnswer certificate given status written
      → (status ≡ 0) ⊎ (written ≡ refusal_line OutOfMemory)
  is_accepted narrow status written (answer.certified value position looked is) = inl refl
  is_accepted narrow status written (answer.refused fault why) =
      elim (is_allowed fault why) [
        | inl wide ↦ let (manner, w, list, is_list, (line, here, (searched, is))) = wide.0 in
            absurd (not_wide narrow manner w list is_list line here searched is)
        | inr memory ↦ inr (ap refusal_line memory)
      ]
