use Rattle.std.proofs.Common.{◌∙◌, Bool, List, ap, arith, subst, sym}
use Rattle.sector_disk.specs.lemmas.Moments.{still_honest}
use Rattle.page_store.specs.declared.marks.Mark.{Mark}
use Rattle.page_store.specs.lemmas.Frames.{read_refused, read_takes, refused_since, written_since}
use Rattle.btree.specs.Answers.{filled_bytes}
use Rattle.btree.specs.Changes.{AreHeld}
use Rattle.btree.specs.lemmas.Unchanged.{unchanged_holds}
use Rattle.btree.proofs.puts.Faults.{passed_on}
use Rattle.btree.proofs.puts.Looks.{take_since, not_read, not_put}
use Rattle.btree.proofs.put.new_key.put_looked.Goals as goal

pub returns-in_err-there-clause-err : goal.returns-in_err-there-clause-err
returns-in_err-there-clause-err g c =
    let old = g.P.Pages.store c.args.store.now in
    let new = g.P.Pages.store c.get_into.new.store in
    passed_on _ c.from_residual.result _ c.from_residual.ensures
    (read_refused c.in_err-there.ensures.read (not_read c.args.widths c.args.root old new _ c.in_err-there.ensures.cause))

pub returns-then-there-clause-told : goal.returns-then-there-clause-told
returns-then-there-clause-told g c = λ honest pages es holds held. (
  c.get_into.new.into.items,
  sym (c.in_ok-there.ensures.found honest pages es holds)
      ∙ ap (λ (b : Bool). filled_bytes b c.get_into.new.into) c.if-there.true,
)

pub returns-then-there-clause-left : goal.returns-then-there-clause-left
returns-then-there-clause-left g c = c.in_ok-there.ensures.read

pub returns-in_err-next-clause-err : goal.returns-in_err-next-clause-err
returns-in_err-next-clause-err g c =
    let old = g.P.Pages.store c.args.store.now in
    let mid = g.P.Pages.store c.get_into.new.store in
    let new = g.P.Pages.store c.put_anew.new.store in
    let read = c.in_ok-there.ensures.read in
    passed_on _ c.from_residual-in_err-next.result _ c.from_residual-in_err-next.ensures
    (refused_since 0 read.works read.unchanged.closed (read_takes read) (omega arith) (not_put c.args.widths c.args.root old mid new read _)
    c.in_err-next.ensures.err)

pub returns-clause-told : goal.returns-clause-told
returns-clause-told g c = λ honest pages es holds held.
    sym (c.in_ok-there.ensures.found honest pages es holds) ∙ ap (λ (b : Bool). filled_bytes b c.get_into.new.into) c.if-there.false

pub returns-clause-map : goal.returns-clause-map
returns-clause-map g c = λ honest pages es holds held.
    let old = g.P.Pages.store c.args.store.now in
    let mid = g.P.Pages.store c.get_into.new.store in
    let read = c.in_ok-there.ensures.read in
    let other = c.in_ok-next.ensures.map (still_honest read.works.goes_on honest) pages es
    (unchanged_holds c.args.widths old mid c.args.root pages es honest read.unchanged holds)
    (subst (λ (ms : List Mark). AreHeld ms pages) (sym read.unchanged.marks) held) in
    (other.0, other.1, take_since read other.2)

pub returns-clause-ok : goal.returns-clause-ok
returns-clause-ok g c =
    let read = c.in_ok-there.ensures.read in
    written_since 0 read.works (read_takes read) (omega arith) c.in_ok-next.ensures.ok
