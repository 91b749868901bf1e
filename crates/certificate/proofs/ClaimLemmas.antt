-- What is claimed, by the packing and the game of a source, and what is answered.
use Rattle.std.proofs.Common.{◌≡◌, ◌∙◌, sym, ap, subst, ◌⊎◌, inl, inr, ℕ, List, Option}
use Rattle.rbg_game.specs.Games.{Game}
use Rattle.rbg_game.specs.declared.position.Position.{Position}
use Rattle.position_pack.specs.declared.kind.PackingKind.{PackingKind}
use Rattle.position_pack.specs.declared.kind.PackingKind.TheVariants.{Bits}
use Rattle.position_pack.specs.Packings.{Form, form_of, packed_by}
use Rattle.position_pack.specs.Shape.{shape_of}
use Rattle.legal_moves.specs.Sources.{graph_of}
use Rattle.certificate.specs.declared.claim.Claimed.{Claimed}
use Rattle.certificate.specs.declared.fault.CertificateFault.{CertificateFault}
use Rattle.certificate.specs.lemmas.Reasons.{AreTheLists, IsNotShown}
use Rattle.certificate.specs.Claims.{IsClaimSo, IsCertified}
use Rattle.certificate.specs.Refusals.{IsCertificateRefused}
use Rattle.certificate.specs.Answers.{IsCertificateAnswer, certified, refused, refusal_line, shown_lines, status_of}

-- what is so in the graph of a source is so in that of its game
pub same_claim : (claim : Claimed) (kind : PackingKind) (goal given : Option ℕ) (game read : Game) (form : Form) (at : Position) (x : List ℕ)
    → kind ≡ Bits → goal ≡ given → game ≡ read → form ≡ form_of kind game → x ≡ packed_by form.kind form.shape at
    → IsClaimSo (graph_of kind goal game) claim x → IsClaimSo (graph_of Bits given read) claim (packed_by Bits (shape_of read) at)
same_claim claim kind goal given game read form at x kind_is goal_is game_is form_is packed so =
    let bytes : x ≡ packed_by kind (shape_of game) at = packed ∙ ap (λ (q : Form). packed_by q.kind q.shape at) form_is in
    let one = subst (λ (y : List ℕ). IsClaimSo (graph_of kind goal game) claim y) bytes so in
    let two = subst (λ (q : PackingKind). IsClaimSo (graph_of q goal game) claim (packed_by q (shape_of game) at)) kind_is one in
    let three = subst (λ (q : Option ℕ). IsClaimSo (graph_of Bits q game) claim (packed_by Bits (shape_of game) at)) goal_is two in
    subst (λ (q : Game). IsClaimSo (graph_of Bits given q) claim (packed_by Bits (shape_of q) at)) game_is three

-- what is not shown there is not shown of the game
pub same_refusal : (claim : Claimed) (fault : CertificateFault) (behind : List ℕ) (kind : PackingKind) (goal given : Option ℕ) (game read : Game) (form : Form)
    (at : Position) (x : List ℕ) → kind ≡ Bits → goal ≡ given → game ≡ read → form ≡ form_of kind game → x ≡ packed_by form.kind form.shape at
    → IsNotShown game goal claim x behind fault → IsNotShown read given claim (packed_by Bits (shape_of read) at) behind fault
same_refusal claim fault behind kind goal given game read form at x kind_is goal_is game_is form_is packed not_shown =
    let bytes : x ≡ packed_by Bits (shape_of read) at =
    packed ∙ ap (λ (q : Form). packed_by q.kind q.shape at) form_is ∙ ap (λ (q : PackingKind). packed_by q (shape_of game) at) kind_is
    ∙ ap (λ (q : Game). packed_by Bits (shape_of q) at) game_is in
    let one = subst (λ (y : List ℕ). IsNotShown game goal claim y behind fault) bytes not_shown in
    let two = subst (λ (q : Option ℕ). IsNotShown game q claim (packed_by Bits (shape_of read) at) behind fault) goal_is one in
    subst (λ (q : Game). IsNotShown q given claim (packed_by Bits (shape_of read) at) behind fault) game_is two

-- and lists that show it there show it of the game
pub same_lists : (claim : Claimed) (behind : List ℕ) (kind : PackingKind) (goal given : Option ℕ) (game read : Game) (form : Form)
    (at : Position) (x : List ℕ) → kind ≡ Bits → goal ≡ given → game ≡ read → form ≡ form_of kind game → x ≡ packed_by form.kind form.shape at
    → AreTheLists game goal claim x behind → AreTheLists read given claim (packed_by Bits (shape_of read) at) behind
same_lists claim behind kind goal given game read form at x kind_is goal_is game_is form_is packed shown =
    let bytes : x ≡ packed_by Bits (shape_of read) at =
    packed ∙ ap (λ (q : Form). packed_by q.kind q.shape at) form_is ∙ ap (λ (q : PackingKind). packed_by q (shape_of game) at) kind_is
    ∙ ap (λ (q : Game). packed_by Bits (shape_of q) at) game_is in
    let one = subst (λ (y : List ℕ). AreTheLists game goal claim y behind) bytes shown in
    let two = subst (λ (q : Option ℕ). AreTheLists game q claim (packed_by Bits (shape_of read) at) behind) goal_is one in
    subst (λ (q : Game). AreTheLists q given claim (packed_by Bits (shape_of read) at) behind) game_is two

module _ (certificate : List ℕ) (given : Option (List ℕ)) (Prints : List ℕ → Type 0) (status : ℕ) where
  -- what is printed of a value that was shown
  pub answers_shown : (value position : List ℕ) (looked : ℕ) → IsCertified certificate given position value
      → (status ≡ 4) ⊎ ((status ≡ 0) × Prints (shown_lines value position looked))
      → (status ≡ 4) ⊎ ((written : List ℕ) × IsCertificateAnswer certificate given status written × Prints written)
  answers_shown value position looked shown (inl failed) = inl failed
  answers_shown value position looked shown (inr (zero_is, prints)) =
      let lines = shown_lines value position looked in
      inr (lines, subst (λ (s : ℕ). IsCertificateAnswer certificate given s lines) (sym zero_is) (certified value position looked shown), prints)

  -- and of a refusal
  pub answers_refused : (fault : CertificateFault) → IsCertificateRefused certificate given fault
      → (status ≡ 4) ⊎ ((status ≡ status_of fault) × Prints (refusal_line fault))
      → (status ≡ 4) ⊎ ((written : List ℕ) × IsCertificateAnswer certificate given status written × Prints written)
  answers_refused fault cause (inl failed) = inl failed
  answers_refused fault cause (inr (status_is, prints)) =
      inr (refusal_line fault, subst (λ (s : ℕ). IsCertificateAnswer certificate given s (refusal_line fault)) (sym status_is) (refused fault cause), prints)
