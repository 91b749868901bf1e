use Rattle.std.proofs.Common.{◌-◌, ◌≡◌, ◌++◌, codes, rules, subst}
use Rattle.std.specs.Fmt.{decimal}
use Rattle.std.specs.Io.KnownBytes.{Appends}
use Rattle.session_lines.specs.Parts.{AppendsPart}
use Rattle.session_lines.proofs.PartLemmas.{on_err, on_err_by, on_ok_by, pieces_before, pieces_behind, pieces_then}
use Rattle.session_lines.proofs.replies.put_pages.Goals as goal

pub returns-in_err-put_field-clause-part : goal.returns-in_err-put_field-clause-part
returns-in_err-put_field-clause-part g c = on_err _ (pieces_before (codes "pages ") (decimal c.args.pages) _ c.in_err-put_field.ensures.part)

pub returns-in_err-put_field-2-clause-part : goal.returns-in_err-put_field-2-clause-part
returns-in_err-put_field-2-clause-part g c =
    let used : c.saturating_sub.result ≡ c.args.pages - c.args.free = search rules in
    on_err _ (pieces_behind (codes "pages ") (decimal c.args.pages) c.in_ok-put_field.ensures.all
    (pieces_before (codes " used ") (decimal (c.args.pages - c.args.free)) _
    (subst (λ n. AppendsPart (g.W.Write.contents c.put_field.new.out) (g.W.Write.contents c.put_field-2.new.out)
    (codes " used " ++ decimal n)) used c.in_err-put_field-2.ensures.part)))

pub returns-in_err-put_field-3-clause-part : goal.returns-in_err-put_field-3-clause-part
returns-in_err-put_field-3-clause-part g c =
    let used : c.saturating_sub.result ≡ c.args.pages - c.args.free = search rules in
    on_err _ (pieces_behind (codes "pages ") (decimal c.args.pages) c.in_ok-put_field.ensures.all
    (pieces_behind (codes " used ") (decimal (c.args.pages - c.args.free))
    (subst (λ n. Appends (g.W.Write.contents c.put_field.new.out) (g.W.Write.contents c.put_field-2.new.out)
    (codes " used " ++ decimal n)) used c.in_ok-put_field-2.ensures.all)
    (pieces_before (codes " free ") (decimal c.args.free) _ c.in_err-put_field-3.ensures.part)))

pub returns-clause-all : goal.returns-clause-all
returns-clause-all g c =
    let used : c.saturating_sub.result ≡ c.args.pages - c.args.free = search rules in
    on_ok_by c.put_line.result
    (λ done. pieces_then _ _ _ (codes "pages ") (decimal c.args.pages) _ c.in_ok-put_field.ensures.all
    (pieces_then _ _ _ (codes " used ") (decimal (c.args.pages - c.args.free)) _
    (subst (λ n. Appends (g.W.Write.contents c.put_field.new.out) (g.W.Write.contents c.put_field-2.new.out)
    (codes " used " ++ decimal n)) used c.in_ok-put_field-2.ensures.all)
    (pieces_then _ _ _ (codes " free ") (decimal c.args.free) _ c.in_ok-put_field-3.ensures.all done)))
    c.put_line.ensures.all

pub returns-clause-part : goal.returns-clause-part
returns-clause-part g c =
    let used : c.saturating_sub.result ≡ c.args.pages - c.args.free = search rules in
    on_err_by c.put_line.result
    (λ part. pieces_behind (codes "pages ") (decimal c.args.pages) c.in_ok-put_field.ensures.all
    (pieces_behind (codes " used ") (decimal (c.args.pages - c.args.free))
    (subst (λ n. Appends (g.W.Write.contents c.put_field.new.out) (g.W.Write.contents c.put_field-2.new.out)
    (codes " used " ++ decimal n)) used c.in_ok-put_field-2.ensures.all)
    (pieces_behind (codes " free ") (decimal c.args.free) c.in_ok-put_field-3.ensures.all part)))
    c.put_line.ensures.part
