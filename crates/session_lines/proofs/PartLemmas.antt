-- A part of a text that is written piece by piece.
use Rattle.std.proofs.Common.{◌≡◌, ◌≤◌, ◌+◌, ◌-◌, ℕ, List, [], ◌++◌, Option, length, take, drop, refl, ap, sym, subst, ◌∙◌, append_assoc, append-nil, arith}
use Rattle.std.proofs.Math.Seq.{take-append-add}
use Rattle.std.proofs.lemmas.List.{take-append-drop, take_all, length-take-le, length-drop}
use Rattle.std.specs.Prelude.{Result, Ok, Err, OnErr, OnOk}
use Rattle.std.specs.Io.KnownBytes.{Appends, Keeps}
use Rattle.session_lines.specs.Parts.{AppendsPart, IsTextWritten}
use Rattle.session_lines.proofs.Appends.{appends_then, appends_nothing, appends_and_keeps}

-- nothing of it
pub no_part : (before : Option (List ℕ)) (text : List ℕ) → AppendsPart before before text
no_part before text = record { part = []; left = text; text_is = refl; appended = appends_nothing before }

-- all of it
pub whole_part : (before after : Option (List ℕ)) (text : List ℕ) → Appends before after text → AppendsPart before after text
whole_part before after text wrote = record { part = text; left = []; text_is = sym (append-nil text); appended = wrote }

-- all of it, and the output failed in what writes nothing
pub whole_kept : (before mid after : Option (List ℕ)) (text : List ℕ) → Appends before mid text → Keeps mid after → AppendsPart before after text
whole_kept before mid after text wrote kept = whole_part before after text (appends_and_keeps before mid after text wrote kept)

-- more of the text follows
pub part_before : {before after : Option (List ℕ)} {text : List ℕ} (more : List ℕ) → AppendsPart before after text → AppendsPart before after (text ++ more)
part_before {text = text} more of = record {
  part = of.part;
  left = of.left ++ more;
  text_is = ap (λ t. t ++ more) of.text_is ∙ append_assoc of.part of.left more;
  appended = of.appended;
}

-- another text was written before
pub part_behind : {before mid after : Option (List ℕ)} {text : List ℕ} (first : List ℕ) → Appends before mid first → AppendsPart mid after text
    → AppendsPart before after (first ++ text)
part_behind {before} {mid} {after} first wrote of = record {
  part = first ++ of.part;
  left = of.left;
  text_is = ap (λ t. first ++ t) of.text_is ∙ sym (append_assoc first of.part of.left);
  appended = appends_then before mid after first of.part wrote of.appended;
}

-- as many of its bytes as were taken
pub taken_part : (before after : Option (List ℕ)) (text : List ℕ) (n : ℕ) → Appends before after (take n text) → AppendsPart before after text
taken_part before after text n wrote = record { part = take n text; left = drop n text; text_is = sym (take-append-drop n text); appended = wrote }

pub taken_kept : (before mid after : Option (List ℕ)) (text : List ℕ) (n : ℕ) → Appends before mid (take n text) → Keeps mid after
    → AppendsPart before after text
taken_kept before mid after text n wrote kept = taken_part before after text n (appends_and_keeps before mid after (take n text) wrote kept)

-- what is left behind the first bytes
rest_is : (text : List ℕ) (n : ℕ) → take (length text - n) (drop n text) ≡ drop n text
rest_is text n = take_all (length text - n) (drop n text) (omega (arith, length-drop n text))

-- more of its bytes
pub taken_more : (before mid after : Option (List ℕ)) (text : List ℕ) (n m : ℕ) → n ≤ length text → m ≤ length (take (length text - n) (drop n text))
    → Appends before mid (take n text) → Appends mid after (take m (take (length text - n) (drop n text)))
    → (n + m ≤ length text) × Appends before after (take (n + m) text)
taken_more before mid after text n m enough few wrote then = (
  omega (arith, enough, few, ap length (rest_is text n), length-drop n text),
  subst (Appends before after) all (appends_then before mid after (take n text) (take m (take (length text - n) (drop n text))) wrote then),
)
  where
    all : take n text ++ take m (take (length text - n) (drop n text)) ≡ take (n + m) text
    all =
        ap (λ r. take n text ++ take m r) (rest_is text n) ∙ sym (take-append-add (take n text) (drop n text) m)
        ∙ ap (λ k. take (k + m) (take n text ++ drop n text)) (length-take-le n text enough) ∙ ap (take (n + m)) (take-append-drop n text)

-- the same of a text in two pieces
pub pieces_before : {before after : Option (List ℕ)} (one two more : List ℕ) → AppendsPart before after (one ++ two)
    → AppendsPart before after (one ++ (two ++ more))
pieces_before {before} {after} one two more of = subst (AppendsPart before after) (append_assoc one two more) (part_before more of)

pub pieces_behind : {before mid after : Option (List ℕ)} {text : List ℕ} (one two : List ℕ) → Appends before mid (one ++ two) → AppendsPart mid after text
    → AppendsPart before after (one ++ (two ++ text))
pieces_behind {before} {mid} {after} {text} one two wrote of = subst (AppendsPart before after) (append_assoc one two text) (part_behind (one ++ two) wrote of)

-- what holds where a call failed, and by it
pub on_err : {X E A : Type 0} (r : Result X E) → A → OnErr r A
on_err (Ok x) it = tt
on_err (Err e) it = it

pub on_err_by : {X E A B : Type 0} (r : Result X E) → (A → B) → OnErr r A → OnErr r B
on_err_by (Ok x) leads it = tt
on_err_by (Err e) leads it = leads it

-- the same where a call was done
pub on_ok_by : {X E A B : Type 0} (r : Result X E) → (A → B) → OnOk r A → OnOk r B
on_ok_by (Ok x) leads it = leads it
on_ok_by (Err e) leads it = tt

-- all of a text in two pieces, and then another
pub pieces_then : (before mid after : Option (List ℕ)) (one two text : List ℕ) → Appends before mid (one ++ two) → Appends mid after text
    → Appends before after (one ++ (two ++ text))
pieces_then before mid after one two text wrote then = subst (Appends before after) (append_assoc one two text)
    (appends_then before mid after (one ++ two) text wrote then)

-- a line of which a part was written, and one that follows from it
pub line_part : {X E : Type 0} (r : Result X E) (Is : List ℕ → Type 0) {before after : Option (List ℕ)} {line : List ℕ} → Is line
    → AppendsPart before after line
    → OnErr r ((text : List ℕ) × Is text × AppendsPart before after text)
line_part r Is {line = line} is part = on_err r (line, is, part)

pub line_part_by : {X E : Type 0} (r : Result X E) (Is Js : List ℕ → Type 0) {before mid after : Option (List ℕ)} (whole : List ℕ → List ℕ)
    → ((line : List ℕ) → Is line → Js (whole line)) → ((line : List ℕ) → AppendsPart mid after line → AppendsPart before after (whole line))
    → OnErr r ((text : List ℕ) × Is text × AppendsPart mid after text) → OnErr r ((text : List ℕ) × Js text × AppendsPart before after text)
line_part_by r Is Js whole leads more = on_err_by r (λ failed. (whole failed.0, leads failed.0 failed.1, more failed.0 failed.2))

pub line_all : {X E : Type 0} (r : Result X E) (Is : List ℕ → Type 0) (before mid after : Option (List ℕ)) (first last : List ℕ) → Appends before mid first
    → Is (first ++ last) → OnOk r (Appends mid after last) → OnOk r ((text : List ℕ) × Is text × Appends before after text)
line_all r Is before mid after first last wrote is = on_ok_by r (λ then. (first ++ last, is, appends_then before mid after first last wrote then))

pub line_all_by : {X E : Type 0} (r : Result X E) (Is Js : List ℕ → Type 0) (before mid after : Option (List ℕ)) (whole : List ℕ → List ℕ)
    → ((line : List ℕ) → Is line → Js (whole line)) → ((line : List ℕ) → Appends mid after line → Appends before after (whole line))
    → OnOk r ((text : List ℕ) × Is text × Appends mid after text) → OnOk r ((text : List ℕ) × Js text × Appends before after text)
line_all_by r Is Js before mid after whole leads more = on_ok_by r (λ done. (whole done.0, leads done.0 done.1, more done.0 done.2))

-- what tells the one tells the other
pub written_as : {Tells Others : ℕ → List ℕ → Type 0} {old new : Option (List ℕ)} {status : ℕ}
    → ((status : ℕ) (text : List ℕ) → Tells status text → Others status text) → IsTextWritten Tells old new status → IsTextWritten Others old new status
written_as leads (IsTextWritten.whole text tells appends) = IsTextWritten.whole text (leads _ text tells) appends
written_as leads (IsTextWritten.part own text tells part four) = IsTextWritten.part own text (leads own text tells) part four
