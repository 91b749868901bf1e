-- Lists that are read line by line.
use Rattle.std.proofs.Common.{◌≡◌, ◌≢◌, ◌∙◌, ap, sym, subst, refl, ℕ, ◌≤◌, List, [], ◌∷◌, ◌++◌, length, map, All, append_assoc, arith}
use Rattle.std.specs.Fmt.{decimal}
use Rattle.std.proofs.lemmas.List.{map_push}
use Rattle.std.proofs.lemmas.List.Elements.{All-nil, All-push}
use Rattle.base64.specs.GeneralPurpose.{IsBytes}
use Rattle.rbg_game.specs.declared.position.Position.{Position}
use Rattle.position_pack.specs.Packings.{Form, IsPacked, length_by}
use Rattle.position_pack.specs.Shape.{IsSmall, Shape}
use Rattle.position_pack.specs.declared.kind.PackingKind.{PackingKind}
use Rattle.position_pack.specs.declared.kind.PackingKind.TheVariants.{Bytes, Bits}
use Rattle.position_pack.specs.declared.limits.TheConstants.{MAX_PACKED}
use Rattle.position_pack.proofs.PackingLemmas.{as_many}
use Rattle.position_pack.proofs.PartFields.{few_bits}
use Rattle.certificate.specs.Format.{Ascends, IsLine, Line, letters, line_text}
use Rattle.certificate.specs.Lists.{line_of, lines_in}
use Rattle.certificate.specs.lemmas.Parts.{AllFit, AreLinesRefused, AreParts, AreReadLines, IsLettersRefused, IsLineRefused, IsReadLine}
use Rattle.certificate.specs.lemmas.Parts.{AreLinesRefused as are_lines}
use Rattle.certificate.specs.lemmas.Parts.{IsLettersRefused as are_letters}
use Rattle.certificate.specs.lemmas.Parts.{IsLineRefused as is_line}
use Rattle.certificate.specs.declared.fault.CertificateFault.{CertificateFault}
use Rattle.certificate.specs.declared.fault.CertificateFault.TheVariants.{Malformed, NoPosition}
use Rattle.certificate.specs.declared.manner.Manner.{Manner}
use Rattle.certificate.specs.declared.manner.Manner.TheVariants.{AtMost, AtLeast, Never}
use Rattle.certificate.specs.declared.ranked.Ranked.{Ranked}
use Rattle.certificate.proofs.LineLemmas.{cut_last, no_blank_in_digits}
use Rattle.certificate.proofs.ListLemmas.{front_ascends, goes_on, line_tells}

-- ---- one line

parts_are : (manner : Manner) (text : List ℕ) (line : Line) → IsLine manner line → text ≡ line_text manner line
    → AreParts manner text (letters line.at) line.rank
parts_are AtMost text line is same = (is.rank, same)
parts_are AtLeast text line is same = (is.rank, same)
parts_are Never text line is same = (is.rank, same)

-- the letters of a line are those in front of its rank
letters_are : (manner : Manner) (text written : List ℕ) (rank : ℕ) (line : Line) → AreParts manner text written rank → IsLine manner line
    → text ≡ line_text manner line → written ≡ letters line.at
letters_are AtMost text written rank line parts is same =
    (cut_last 32 written (letters line.at) (decimal rank) (decimal line.rank) (no_blank_in_digits rank parts.0)
    (no_blank_in_digits line.rank is.rank) (sym parts.1 ∙ same)).0
letters_are AtLeast text written rank line parts is same =
    (cut_last 32 written (letters line.at) (decimal rank) (decimal line.rank) (no_blank_in_digits rank parts.0)
    (no_blank_in_digits line.rank is.rank) (sym parts.1 ∙ same)).0
letters_are Never text written rank line parts is same = sym parts.1 ∙ same

made_text : (manner : Manner) (text written bytes : List ℕ) (rank : ℕ) → AreParts manner text written rank → written ≡ letters bytes
    → text ≡ line_text manner (record { at = bytes; rank = rank })
made_text AtMost text written bytes rank parts same = parts.1 ∙ ap (λ (xs : List ℕ). xs ++ (32 ∷ decimal rank)) same
made_text AtLeast text written bytes rank parts same = parts.1 ∙ ap (λ (xs : List ℕ). xs ++ (32 ∷ decimal rank)) same
made_text Never text written bytes rank parts same = parts.1 ∙ same

made_line : (manner : Manner) (text written bytes : List ℕ) (rank : ℕ) → AreParts manner text written rank → IsBytes bytes
    → line_text manner (record { at = bytes; rank = rank }) ≢ [] → IsLine manner (record { at = bytes; rank = rank })
made_line AtMost text written bytes rank parts are filled = record { bytes = are; rank = parts.0; filled = filled }
made_line AtLeast text written bytes rank parts are filled = record { bytes = are; rank = parts.0; filled = filled }
made_line Never text written bytes rank parts are filled = record { bytes = are; rank = parts.0; filled = filled }

bounded : (form : Form) (at : Position) (bytes : List ℕ) → IsPacked form at bytes → length bytes ≡ length_by form.kind form.shape
bounded form at bytes packed = ap length packed.bytes_are ∙ as_many form.kind form.shape at packed.fits

few_bytes : (kind : PackingKind) (shape : Shape) → IsSmall shape → length_by kind shape ≤ MAX_PACKED
few_bytes Bytes shape small = omega (arith, small.few_vertices, small.few_values)
few_bytes Bits shape small = omega (arith, few_bits shape small)

module _ (form : Form) (manner : Manner) (text : List ℕ) where
  -- a text that has not the parts of a line is none
  pub no_parts : ((front : List ℕ) (rank : ℕ) → ¬ AreParts manner text front rank) → IsLineRefused form manner text Malformed
  no_parts none = is_line.no_line (λ line is same. none (letters line.at) line.rank (parts_are manner text line is same))

  module _ (written : List ℕ) (rank : ℕ) (parts : AreParts manner text written rank) where
    -- nor is one without letters
    pub no_letters_there : (fault : CertificateFault) → IsLettersRefused written fault → IsLineRefused form manner text fault
    no_letters_there fault (are_letters.no_letters none) =
        is_line.no_line (λ line is same. none line.at is.bytes (letters_are manner text written rank line parts is same))
    no_letters_there fault are_letters.no_memory = is_line.no_memory

    module _ (bytes : List ℕ) (are : IsBytes bytes) (same : written ≡ letters bytes) (filled : text ≢ []) where
      text_is : text ≡ line_text manner (record { at = bytes; rank = rank })
      text_is = made_text manner text written bytes rank parts same

      is_made : IsLine manner (record { at = bytes; rank = rank })
      is_made = made_line manner text written bytes rank parts are (λ none. filled (text_is ∙ none))

      pub no_position_there : ((at : Position) → ¬ IsPacked form at bytes) → IsLineRefused form manner text NoPosition
      no_position_there none = is_line.no_position (record { at = bytes; rank = rank }) is_made text_is none

      pub line_is_read : IsSmall form.shape → (at : Position) → IsPacked form at bytes → (ranked : Ranked) → ranked.at.items ≡ bytes → ranked.rank ≡ rank
          → IsReadLine manner text ranked
      line_is_read small at packed ranked at_is rank_is =
          let same_line : record { at = bytes; rank = rank } ≡ line_of ranked = λ i. record { at = sym at_is i; rank = sym rank_is i } in
          let long = bounded form at bytes packed in
          let few = few_bytes form.kind form.shape small in
          let as_long : length ranked.at.items ≡ length bytes = ap length at_is in
          record {
            is = subst (IsLine manner) same_line is_made;
            text_is = text_is ∙ ap (line_text manner) same_line;
            fits = omega arith;
          }

-- ---- the lines of a list

-- before the first line
pub none_read : (manner : Manner) (texts : List (List ℕ)) (list : List Ranked) → list ≡ [] → AreReadLines manner texts list texts
none_read manner texts list none = subst (λ (all : List Ranked). AreReadLines manner texts all texts) (sym none) (record {
  are = record { each = All-nil (IsLine manner); ascending = λ i j d lt within. absurd (omega arith) };
  texts_are = refl;
  fit = All-nil (λ (r : Ranked). length r.at.items ≤ MAX_PACKED);
})

module _ (manner : Manner) (texts : List (List ℕ)) (list : List Ranked) (text : List ℕ) (rest : List (List ℕ))
    (read : AreReadLines manner texts list (text ∷ rest)) where
  -- one more is read
  pub one_read : (ranked : Ranked) (all : List Ranked) → all ≡ list ++ ranked ∷ [] → IsReadLine manner text ranked
      → Ascends (lines_in list ++ line_of ranked ∷ []) → AreReadLines manner texts all rest
  one_read ranked all all_are line ascends =
      let pushed : lines_in all ≡ lines_in list ++ line_of ranked ∷ [] = ap lines_in all_are ∙ map_push line_of list ranked in
      record {
        are = record {
          each = subst (All (IsLine manner)) (sym pushed) (All-push (IsLine manner) (lines_in list) (line_of ranked) read.are.each line.is);
          ascending = subst Ascends (sym pushed) ascends;
        };
        texts_are = read.texts_are ∙ ap (λ (t : List ℕ). map (line_text manner) (lines_in list) ++ t ∷ rest) line.text_is
            ∙ sym (append_assoc (map (line_text manner) (lines_in list)) (line_text manner (line_of ranked) ∷ []) rest)
            ∙ ap (λ (ts : List (List ℕ)). ts ++ rest)
            (sym (map_push (line_text manner) (lines_in list) (line_of ranked)) ∙ ap (map (line_text manner)) (sym pushed));
        fit = subst AllFit (sym all_are) (All-push (λ (r : Ranked). length r.at.items ≤ MAX_PACKED) list ranked read.fit line.fits);
      }

  module _ (form : Form) (filled : text ≢ []) where
    -- a line that does not come behind the last
    pub not_ascending : (ranked : Ranked) → IsReadLine manner text ranked → ¬ Ascends (lines_in list ++ line_of ranked ∷ [])
        → AreLinesRefused form manner texts Malformed
    not_ascending ranked line bad = are_lines.no_lines (λ other more are ends same.
        let found = goes_on manner other (lines_in list) text rest more are.each read.are.each filled ends (sym read.texts_are ∙ same) in
        let one = line_tells manner found.line (line_of ranked) found.is line.is (found.text_is ∙ line.text_is) in
        let whole : other ≡ (lines_in list ++ line_of ranked ∷ []) ++ found.after =
        found.list_is ∙ ap (λ (l : Line). lines_in list ++ l ∷ found.after) one ∙ sym (append_assoc (lines_in list) (line_of ranked ∷ []) found.after) in
        bad (front_ascends (lines_in list ++ line_of ranked ∷ []) found.after (subst Ascends whole are.ascending)))

    -- a line that is refused
    pub no_line_there : (fault : CertificateFault) → IsLineRefused form manner text fault → AreLinesRefused form manner texts fault
    no_line_there fault (is_line.no_line none) = are_lines.no_lines (λ other more are ends same.
        let found = goes_on manner other (lines_in list) text rest more are.each read.are.each filled ends (sym read.texts_are ∙ same) in
        none found.line found.is (sym found.text_is))
    no_line_there fault (is_line.no_position line is same none) =
        are_lines.no_position (lines_in list) line rest read.are.each is
        (read.texts_are ∙ ap (λ (t : List ℕ). map (line_text manner) (lines_in list) ++ t ∷ rest) same) none
    no_line_there fault is_line.no_memory = are_lines.no_memory
