-- Why the two lists behind a head are not read.
use Rattle.std.proofs.Common.{◌≡◌, ◌∙◌, ap, sym, subst, refl, ℕ, List, [], ◌∷◌, ◌++◌, map, drop, get_or, append_assoc, append-nil}
use Rattle.std.proofs.lemmas.List.Elements.{All-map}
use Rattle.rbg_game.specs.Games.{Game}
use Rattle.rbg_game.specs.declared.position.Position.{Position}
use Rattle.rbg_game.specs.declared.roles.Role.TheVariants as role
use Rattle.position_pack.specs.Packings.{Form, IsPacked, form_of}
use Rattle.position_pack.specs.Texts.{role_text}
use Rattle.position_pack.specs.declared.kind.PackingKind.TheVariants.{Bits}
use Rattle.legal_moves.specs.Sources.{IsPositionBytes}
use Rattle.legal_moves.proofs.answers.SourceLemmas.{at_by_packed, packed_by_at}
use Rattle.certificate.specs.Format.{HasLists, Line, first_lines, first_manner, first_player, line_text, lines, second_lines, second_manner, second_player, words_of}
use Rattle.certificate.specs.Lists.{line_of, lines_in}
use Rattle.certificate.specs.Refusals.{AreUnread}
use Rattle.certificate.specs.Refusals.{AreUnread as unread}
use Rattle.certificate.specs.Refusals.{ReadingComesTo as comes}
use Rattle.certificate.specs.lemmas.Parts.{AreOfPositions, IsListRefused, IsReadList}
use Rattle.certificate.specs.lemmas.Parts.{AreLinesRefused as are_lines}
use Rattle.certificate.specs.lemmas.Parts.{IsListRefused as is_list}
use Rattle.certificate.specs.lemmas.Reasons.{AreAllAt, AreReadLists}
use Rattle.certificate.specs.declared.claim.Claimed.{Claimed}
use Rattle.certificate.specs.declared.fault.CertificateFault.{CertificateFault}
use Rattle.certificate.specs.declared.fault.CertificateFault.TheVariants.{Malformed}
use Rattle.certificate.specs.declared.manner.Manner.{Manner}
use Rattle.certificate.specs.declared.ranked.Ranked.{Ranked}
use Rattle.certificate.proofs.ListLemmas.{one_list}

-- a list by the manner and the name that it has to have
pub refused_as : (form : Form) (manner other : Manner) (name called : List ℕ) (texts : List (List ℕ)) (fault : CertificateFault)
    → manner ≡ other → name ≡ called
    → IsListRefused form manner name texts fault → IsListRefused form other called texts fault
refused_as form manner other name called texts fault manner_is name_is refused =
    subst (λ (n : List ℕ). IsListRefused form other n texts fault) name_is (subst (λ (m : Manner). IsListRefused form m name texts fault) manner_is refused)

pub read_as : (manner other : Manner) (name called : List ℕ) (texts : List (List ℕ)) (list : List Ranked) (rest : List (List ℕ))
    → manner ≡ other → name ≡ called
    → IsReadList manner name texts list rest → IsReadList other called texts list rest
read_as manner other name called texts list rest manner_is name_is read =
    subst (λ (n : List ℕ). IsReadList other n texts list rest) name_is (subst (λ (m : Manner). IsReadList m name texts list rest) manner_is read)

module _ (game : Game) (claimed : Claimed) (behind : List ℕ) (form : Form) (form_is : form ≡ form_of Bits game) where
  abbrev pub first_name : List ℕ
  first_name = role_text game (role.Player (first_player claimed))

  abbrev pub second_name : List ℕ
  second_name = role_text game (role.Player (second_player claimed))

  no_bytes : (x : List ℕ) → ((at : Position) → ¬ IsPacked form at x) → ¬ IsPositionBytes Bits game x
  no_bytes x none (at, here) = none at (packed_by_at Bits game form x at form_is here)

  all_at : (list : List Ranked) → AreOfPositions form list → AreAllAt game (lines_in list)
  all_at list are =
      All-map (λ (line : Line). IsPositionBytes Bits game line.at) line_of list
      (λ k d lt. let (at, packed) = are k d lt in (at, at_by_packed Bits game form (get_or list k d).at.items at form_is packed))

  -- the first list is none, or has a line of no position
  pub first_refused : (fault : CertificateFault) → IsListRefused form (first_manner claimed) first_name (lines behind) fault
      → AreUnread game claimed behind fault
  first_refused fault (is_list.no_heading none) = unread.no_lists (λ first second has. none _ has.lines_are)
  first_refused fault (is_list.no_lines rest given same (are_lines.no_lines none)) = unread.no_lists (λ first second has.
      none first (second_lines game claimed second) has.first_is refl (ap (drop 2) (sym same ∙ has.lines_are)))
  first_refused fault (is_list.no_lines rest given same (are_lines.no_position before line more each is texts none)) =
      unread.no_position line
      (comes.in_first before line more each is
      (same ∙ ap (λ (ts : List (List ℕ)). [] ∷ (words_of (first_manner claimed) ++ first_name) ∷ ts) texts)) (no_bytes line.at none)
  first_refused fault (is_list.no_lines rest given same are_lines.no_memory) = unread.no_memory

  module _ (list : List Ranked) (rest : List (List ℕ)) (read : IsReadList (first_manner claimed) first_name (lines behind) list rest) where
    -- what is behind the first list is the second
    second_is : (first second : List Line) → HasLists game claimed behind first second
        → (lines_in list ≡ first) × (rest ≡ second_lines game claimed second)
    second_is first second has =
        one_list (first_manner claimed) (lines_in list) first rest (second_lines game claimed second) read.are.each has.first_is.each read.ends refl
        (ap (drop 2) (sym read.texts_are ∙ has.lines_are))

    -- the second list is none, or has a line of no position
    pub second_refused : (fault : CertificateFault) → IsListRefused form (second_manner claimed) second_name rest fault → AreUnread game claimed behind fault
    second_refused fault (is_list.no_heading none) = unread.no_lists (λ first second has. none _ (second_is first second has).1)
    second_refused fault (is_list.no_lines more given same (are_lines.no_lines none)) = unread.no_lists (λ first second has.
        none second [] has.second_is tt
        (ap (drop 2) (sym same ∙ (second_is first second has).1) ∙ sym (append-nil (map (line_text (second_manner claimed)) second))))
    second_refused fault (is_list.no_lines more given same (are_lines.no_position before line after each is texts none)) =
        unread.no_position line
        (comes.in_second (lines_in list) before line after read.are.each each is
        (read.texts_are ∙ ap (λ (ts : List (List ℕ)). first_lines game claimed (lines_in list) ++ ts)
        (same ∙ ap (λ (ts : List (List ℕ)). [] ∷ (words_of (second_manner claimed) ++ second_name) ∷ ts) texts)
        ∙ sym (append_assoc (first_lines game claimed (lines_in list)) (second_lines game claimed before) (line_text (second_manner claimed) line ∷ after))))
        (no_bytes line.at none)
    second_refused fault (is_list.no_lines more given same are_lines.no_memory) = unread.no_memory

    module _ (other : List Ranked) (last : List (List ℕ)) (others : IsReadList (second_manner claimed) second_name rest other last) where
      -- something stands behind the second list
      pub end_refused : (last ≡ [] → ⊥) → AreUnread game claimed behind Malformed
      end_refused some = unread.no_lists (λ first second has.
          some (one_list (second_manner claimed) (lines_in other) second last [] others.are.each has.second_is.each others.ends tt
          (ap (drop 2) (sym others.texts_are ∙ (second_is first second has).1) ∙ sym (append-nil (map (line_text (second_manner claimed)) second)))).1)

      -- both lists were read, and nothing else is there
      pub both_read : last ≡ [] → AreOfPositions form list → AreOfPositions form other → AreReadLists game claimed behind list other
      both_read none first_at second_at = record {
        has = record {
          lines_are = read.texts_are ∙ ap (λ (ts : List (List ℕ)). first_lines game claimed (lines_in list) ++ ts)
              (others.texts_are ∙ ap (λ (ts : List (List ℕ)). second_lines game claimed (lines_in other) ++ ts) none
              ∙ append-nil (second_lines game claimed (lines_in other)));
          first_is = read.are;
          second_is = others.are;
        };
        first_fit = read.fit;
        second_fit = others.fit;
        first_at = all_at list first_at;
        second_at = all_at other second_at;
      }
