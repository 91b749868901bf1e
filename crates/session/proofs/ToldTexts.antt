-- What is told of a session, one text behind the other.
use Rattle.std.proofs.Common.{◌≡◌, ℕ, List, [], ◌∷◌, ◌++◌, map, ap, sym, ◌∙◌, append_assoc, append-nil}
use Rattle.std.proofs.lemmas.List.{map-append}
use Rattle.std.specs.Io.KnownBytes.{Appends}
use Rattle.session_lines.specs.Parts.{AppendsPart}
use Rattle.session_lines.proofs.Appends.{appends_then, appends_nothing}
use Rattle.session_lines.proofs.PartLemmas.{part_behind}
use Rattle.session.specs.Seen.{Moment, Seen, Wrote, WrotePart}

-- nothing yet
pub tells_nothing : (seen : Seen) → Wrote seen seen [] []
tells_nothing seen = record { wrote = appends_nothing seen.written; noted = sym (append-nil seen.moments) }

noted_then : (before at after first then : List Moment) → at ≡ before ++ first → after ≡ at ++ then → after ≡ before ++ (first ++ then)
noted_then before at after first then one two = two ∙ ap (λ m. m ++ then) one ∙ append_assoc before first then

-- and then more
pub tells_then : {before at after : Seen} {text more : List ℕ} {moments then : List Moment} → Wrote before at text moments → Wrote at after more then
    → Wrote before after (text ++ more) (moments ++ then)
tells_then {before} {at} {after} {text} {more} {moments} {then} one two = record {
  wrote = appends_then before.written at.written after.written text more one.wrote two.wrote;
  noted = noted_then before.moments at.moments after.moments moments then one.noted two.noted;
}

pub tells_part_then : {before at after : Seen} {text more : List ℕ} {moments then : List Moment} → Wrote before at text moments → WrotePart at after more then
    → WrotePart before after (text ++ more) (moments ++ then)
tells_part_then {before} {at} {after} {text} {more} {moments} {then} one two = record {
  wrote = part_behind text one.wrote two.wrote;
  noted = noted_then before.moments at.moments after.moments moments then one.noted two.noted;
}

-- and then what begins at no moment
pub tells_more : {before at after : Seen} {text : List ℕ} {moments : List Moment} (more : List ℕ) → Wrote before at text moments
    → Appends at.written after.written more → after.moments ≡ at.moments → Wrote before after (text ++ more) moments
tells_more {before} {at} {after} {text} more one wrote none = record {
  wrote = appends_then before.written at.written after.written text more one.wrote wrote;
  noted = none ∙ one.noted;
}

pub tells_part_more : {before at after : Seen} {text : List ℕ} {moments : List Moment} (more : List ℕ) → Wrote before at text moments
    → AppendsPart at.written after.written more → after.moments ≡ at.moments → WrotePart before after (text ++ more) moments
tells_part_more {text = text} more one part none = record { wrote = part_behind text one.wrote part; noted = none ∙ one.noted }

-- one more is noted
pub one_noted : {A B : Type 0} (f : A → B) (before after : List A) (last : A) → after ≡ before ++ last ∷ [] → map f after ≡ map f before ++ f last ∷ []
one_noted f before after last e = ap (map f) e ∙ map-append f before (last ∷ [])
