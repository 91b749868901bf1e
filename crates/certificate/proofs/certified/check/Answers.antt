use Rattle.std.proofs.Common.{◌<◌, ◌^◌, Bor, List, ℕ, length, refl, sym, subst, arith}
use Rattle.std.specs.Prelude.{option_map}
use Rattle.rbg_game.specs.Goals.{points_of}
use Rattle.rbg_game.specs.Meaning.{game_of}
use Rattle.position_pack.specs.declared.kind.PackingKind.TheVariants.{Bits}
use Rattle.certificate.specs.Refusals.{IsCertificateRefused}
use Rattle.certificate.specs.Refusals.{IsCertificateRefused as cause}
use Rattle.certificate.proofs.FaultLemmas.{refused_for_lists, refused_for_text}
use Rattle.certificate.proofs.ListLoops.{passed_on}
use Rattle.certificate.proofs.PlayLemmas.{so_down}
use Rattle.certificate.proofs.certified.check.Goals as goal

pub returns-then-certificate-gt-MAX_CERTIFICATE_BYTES-clause-refused : goal.returns-then-certificate-gt-MAX_CERTIFICATE_BYTES-clause-refused
returns-then-certificate-gt-MAX_CERTIFICATE_BYTES-clause-refused c =
    subst (IsCertificateRefused c.args.certificate.now (option_map (λ (b : Bor (List ℕ)). b.now) c.args.text)) (sym c.at.ensures) (cause.too_long (omega arith))

pub returns-in_err-head-clause-refused : goal.returns-in_err-head-clause-refused
returns-in_err-head-clause-refused c =
    let few : length c.args.certificate.now < 2 ^ 32 = omega arith in
    passed_on _ c.from_residual.result _ c.from_residual.ensures
    (subst (IsCertificateRefused c.args.certificate.now (option_map (λ (b : Bor (List ℕ)). b.now) c.args.text)) (sym c.in_err-head.ensures.fault)
    (cause.no_beginning (c.in_err-head.ensures.none few)))

pub returns-in_err-game-clause-refused : goal.returns-in_err-game-clause-refused
returns-in_err-game-clause-refused c =
    passed_on _ c.from_residual-in_err-game.result _ c.from_residual-in_err-game.ensures
    (refused_for_text c.args.certificate.now (option_map (λ (b : Bor (List ℕ)). b.now) c.args.text)
    (record {
      goal = points_of c.in_ok-head.head.goal;
      text = c.in_ok-head.head.text.now;
      position = c.in_ok-head.head.position.now;
      value = c.in_ok-head.head.value.now;
      behind = c.in_ok-head.head.lists.now;
    }) c.in_ok-head.ensures.begins _ c.in_err-game.ensures.fault)

pub returns-then-not-is_given-clause-refused : goal.returns-then-not-is_given-clause-refused
returns-then-not-is_given-clause-refused c =
    subst (IsCertificateRefused c.args.certificate.now (option_map (λ (b : Bor (List ℕ)). b.now) c.args.text)) (sym c.at-then-not-is_given.ensures)
    (cause.other_game (record {
      goal = points_of c.in_ok-head.head.goal;
      text = c.in_ok-head.head.text.now;
      position = c.in_ok-head.head.position.now;
      value = c.in_ok-head.head.value.now;
      behind = c.in_ok-head.head.lists.now;
    })
    (game_of c.in_ok-game.game) c.in_ok-head.ensures.begins c.in_ok-game.ensures.reads
    (λ given. let yes = c.is_given.ensures.1 given in let no = c.if-not-is_given.true in cc))

pub returns-in_err-claim-clause-refused : goal.returns-in_err-claim-clause-refused
returns-in_err-claim-clause-refused c =
    passed_on _ c.from_residual-in_err-claim.result _ c.from_residual-in_err-claim.ensures
    (cause.no_claim (record {
      goal = points_of c.in_ok-head.head.goal;
      text = c.in_ok-head.head.text.now;
      position = c.in_ok-head.head.position.now;
      value = c.in_ok-head.head.value.now;
      behind = c.in_ok-head.head.lists.now;
    })
    (game_of c.in_ok-game.game) _ c.in_ok-head.ensures.begins c.in_ok-game.ensures.reads c.in_err-claim.ensures.fault)

pub returns-in_err-looked-clause-refused : goal.returns-in_err-looked-clause-refused
returns-in_err-looked-clause-refused c =
    let claim = c.in_ok-claim.claim in
    let said = c.in_ok-claim.ensures in
    passed_on _ c.from_residual-in_err-looked.result _ c.from_residual-in_err-looked.ensures
    (refused_for_lists c.args.certificate.now (option_map (λ (b : Bor (List ℕ)). b.now) c.args.text)
    (record {
      goal = points_of c.in_ok-head.head.goal;
      text = c.in_ok-head.head.text.now;
      position = c.in_ok-head.head.position.now;
      value = c.in_ok-head.head.value.now;
      behind = c.in_ok-head.head.lists.now;
    }) c.in_ok-head.ensures.begins
    (game_of c.in_ok-game.game) claim.at claim.claimed
    (record {
      begins = c.in_ok-head.ensures.begins;
      reads = c.in_ok-game.ensures.reads;
      spelled = said.spelled;
      named = said.named;
      counted = said.counted;
    }) _ c.in_err-looked.ensures.fault)

pub returns-clause-shown : goal.returns-clause-shown
returns-clause-shown c =
    let head = c.in_ok-head.head in
    let claim = c.in_ok-claim.claim in
    let said = c.in_ok-claim.ensures in
    let game_is = game_of c.in_ok-game.game in (
      head.text.now,
      record {
        goal = points_of head.goal;
        rest = head.lists.now;
        begins = c.in_ok-head.ensures.begins.begins;
        game = game_is;
        reads = c.in_ok-game.ensures.reads;
        at = claim.at;
        spelled = said.spelled;
        claimed = claim.claimed;
        named = said.named;
        so = so_down Bits (points_of head.goal) game_is c.in_ok-game.ensures.sound claim.claimed claim.at said.spelled.position c.in_ok-looked.ensures.so;
      },
      c.is_given.ensures.0 c.if-not-is_given.false,
    )

pub returns-clause-shows : goal.returns-clause-shows
returns-clause-shows c =
    let head = c.in_ok-head.head in
    let claim = c.in_ok-claim.claim in
    let said = c.in_ok-claim.ensures in
    let lists = c.in_ok-looked.ensures.shown in
    record {
      acceptable = record {
        shows = record {
          short = omega arith;
          b = record { goal = points_of head.goal; text = head.text.now; position = head.position.now; value = head.value.now; behind = head.lists.now };
          game = game_of c.in_ok-game.game;
          at = claim.at;
          claimed = claim.claimed;
          claims = record {
            begins = c.in_ok-head.ensures.begins;
            reads = c.in_ok-game.ensures.reads;
            spelled = said.spelled;
            named = said.named;
            counted = said.counted;
          };
          is_given = c.is_given.ensures.0 c.if-not-is_given.false;
          first = lists.first;
          second = lists.second;
          has = lists.has;
          first_are = lists.first_at;
          second_are = lists.second_at;
          shown = lists.shown;
        };
        narrow = lists.narrow;
      };
      position_is = refl;
      claimed_is = refl;
    }
