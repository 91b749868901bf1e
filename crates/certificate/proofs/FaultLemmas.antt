-- Faults of what a check asks, and their causes.
use Rattle.std.proofs.Common.{◌≡◌, ◌≢◌, sym, subst, Option}
use Rattle.rbg_game.specs.Games.{Game}
use Rattle.rbg_game.specs.declared.position.Position.{Position}
use Rattle.position_pack.specs.Packings.{packed_by}
use Rattle.position_pack.specs.Shape.{shape_of}
use Rattle.position_pack.specs.declared.kind.PackingKind.TheVariants.{Bits}
use Rattle.rbg_text.specs.Token.{Text}
use Rattle.rbg_read.specs.Reads.{Fault}
use Rattle.rbg_read.specs.declared.fault.GameFault.{GameFault}
use Rattle.rbg_read.specs.declared.fault.GameFault.TheVariants as why
use Rattle.certificate.specs.lemmas.Faults.{of_text}
use Rattle.certificate.specs.Format.{Beginning, Begins}
use Rattle.certificate.specs.Refusals.{Claims, IsCertificateRefused}
use Rattle.certificate.specs.Refusals.{IsCertificateRefused as refused}
use Rattle.certificate.specs.lemmas.Reasons.{IsNoGame, IsNotShown}
use Rattle.certificate.specs.lemmas.Reasons.{IsNotShown as lists}
use Rattle.certificate.specs.declared.claim.Claimed.{Claimed}
use Rattle.certificate.specs.lemmas.Reasons.{IsNoGame as cause}
use Rattle.certificate.specs.declared.fault.CertificateFault.{CertificateFault}

by_fault : (text : Text) (fault : GameFault) → (fault ≢ why.OutOfMemory → Fault text fault) → IsNoGame text (of_text fault)
by_fault text why.OutOfMemory says = cause.no_memory
by_fault text why.Syntax says = cause.no_game why.Syntax (says (λ e. cc))
by_fault text why.Section says = cause.no_game why.Section (says (λ e. cc))
by_fault text why.NotTwoPlayers says = cause.no_game why.NotTwoPlayers (says (λ e. cc))
by_fault text why.UnknownName says = cause.no_game why.UnknownName (says (λ e. cc))
by_fault text why.RepeatedName says = cause.no_game why.RepeatedName (says (λ e. cc))
by_fault text why.BoundTooLarge says = cause.no_game why.BoundTooLarge (says (λ e. cc))
by_fault text why.TooLarge says = cause.no_game why.TooLarge (says (λ e. cc))
by_fault text why.ExpressionTooLarge says = cause.no_game why.ExpressionTooLarge (says (λ e. cc))
by_fault text why.SwitchInPattern says = cause.no_game why.SwitchInPattern (says (λ e. cc))

-- the fault of a text that is no game
pub no_game_of : (text : Text) (fault : GameFault) (given : CertificateFault) → given ≡ of_text fault → (fault ≢ why.OutOfMemory → Fault text fault)
    → IsNoGame text given
no_game_of text fault given same says = subst (IsNoGame text) (sym same) (by_fault text fault says)

module _ (certificate : Text) (given : Option Text) (b : Beginning) (begins : Begins certificate b) where
  -- a certificate whose text is no game
  pub refused_for_text : (fault : CertificateFault) → IsNoGame b.text fault → IsCertificateRefused certificate given fault
  refused_for_text fault (cause.no_game why is) = refused.no_game b why begins is
  refused_for_text fault cause.no_memory = refused.no_memory

  -- or whose lists do not show what it claims
  pub refused_for_lists : (game : Game) (at : Position) (claimed : Claimed) → Claims certificate b game at claimed → (fault : CertificateFault)
      → IsNotShown game b.goal claimed (packed_by Bits (shape_of game) at) b.behind fault → IsCertificateRefused certificate given fault
  refused_for_lists game at claimed claims fault (lists.unread same why) = refused.no_lists b game at claimed fault claims why
  refused_for_lists game at claimed claims fault (lists.unshown first second same has why) =
      refused.not_shown b game at claimed first second fault claims has why
