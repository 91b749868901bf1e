use Rattle.std.proofs.Common.{◌≡◌, ◌∙◌, ℕ, Bool, List, None, Some, ap, sym}
use Rattle.sector_disk.specs.lemmas.Moments.{still_honest}
use Rattle.page_store.specs.lemmas.Frames.{read_refl, read_then}
use Rattle.btree.specs.Entries.{find_entry}
use Rattle.btree.specs.lemmas.Unchanged.{unchanged_holds, cause_before}
use Rattle.btree.specs.Answers.{filled_bytes, filled_entry}
use Rattle.btree.proofs.finds.Lookups.{none_next, leaf_nexts, ends, behind, behind_is, behind_is_there}
use Rattle.btree.proofs.finds.Exits.{passed_on}
use Rattle.btree.proofs.find.read.next_into.Goals as goal

pub returns-then-root-eq0-clause-found : goal.returns-then-root-eq0-clause-found
returns-then-root-eq0-clause-found g c = λ honest. none_next c.args.widths (g.P.Pages.store c.args.store.now) c.args.root c.args.key.now c.if-root-eq0.true

pub returns-then-found-clause-found : goal.returns-then-found-clause-found
returns-then-found-clause-found g c = λ honest.
    let there = c.in_ok-found.ensures.reaches honest in
    leaf_nexts c.args.widths (g.P.Pages.store c.args.store.now) c.args.root c.args.key.now there.reaches.leaf _ _ there.reaches.reaches
    (λ ascend. ap (λ (b : Bool). filled_entry b c.reach_next.new.into) (sym c.if-found.true) ∙ there.reaches.is ascend)

pub returns-then-not-more-clause-found : goal.returns-then-not-more-clause-found
returns-then-not-more-clause-found g c = λ honest.
    let there = c.in_ok-found.ensures.reaches honest in
    let last : there.next ≡ None = sym (there.behind c.if-found.false) ∙ ap (λ (b : Bool). filled_bytes b c.reach_next.new.into.key) c.if-not-more.true in
    ends c.args.widths (g.P.Pages.store c.args.store.now) c.args.root c.args.key.now there.reaches.leaf _ last there.reaches.reaches
    (λ ascend. ap (λ (b : Bool). filled_entry b c.reach_next.new.into) (sym c.if-found.false) ∙ there.reaches.is ascend)

pub returns-in_err-get_into-clause-cause : goal.returns-in_err-get_into-clause-cause
returns-in_err-get_into-clause-cause g c =
    passed_on _ c.from_residual-in_err-get_into.result _ c.from_residual-in_err-get_into.ensures
    (cause_before _ _ _ _ (g.P.Pages.store c.get_into.new.store) c.in_ok-found.ensures.read.works c.in_ok-found.ensures.read.unchanged _ c.in_err-get_into.ensures.cause)

pub returns-then-branch-clause-found : goal.returns-then-branch-clause-found
returns-then-branch-clause-found g c = λ honest pages es holds.
    let there = c.in_ok-found.ensures.reaches honest in
    let mid_honest = still_honest c.in_ok-found.ensures.read.works.goes_on honest in
    let mid_holds = unchanged_holds c.args.widths (g.P.Pages.store c.args.store.now)
    (g.P.Pages.store c.reach_next.new.store) c.args.root pages es honest c.in_ok-found.ensures.read.unchanged holds in
    let next : List ℕ = c.reach_next.new.into.key.items in
    let some : there.next ≡ Some next = sym (there.behind c.if-found.false) ∙ ap (λ (b : Bool). filled_bytes b c.reach_next.new.into.key) c.if-not-more.false in
    behind_is es c.args.key.now next c.get_into.new.into.items
    (behind c.args.widths (g.P.Pages.store c.args.store.now) c.args.root c.args.key.now there.reaches.leaf _ next some
    there.reaches.reaches (λ ascend. ap (λ (b : Bool). filled_entry b c.reach_next.new.into) (sym c.if-found.false) ∙ there.reaches.is ascend) pages es holds)
    (ap (λ (b : Bool). filled_bytes b c.get_into.new.into) (sym c.if-branch.true)
    ∙ c.in_ok-get_into.ensures.found mid_honest pages es mid_holds ∙ ap (find_entry es) c.deref.ensures.0)

pub returns-else-branch-clause-cause : goal.returns-else-branch-clause-cause
returns-else-branch-clause-cause g c = λ honest pages es holds.
    let there = c.in_ok-found.ensures.reaches honest in
    let mid_honest = still_honest c.in_ok-found.ensures.read.works.goes_on honest in
    let mid_holds = unchanged_holds c.args.widths (g.P.Pages.store c.args.store.now)
    (g.P.Pages.store c.reach_next.new.store) c.args.root pages es honest c.in_ok-found.ensures.read.unchanged holds in
    let next : List ℕ = c.reach_next.new.into.key.items in
    let some : there.next ≡ Some next = sym (there.behind c.if-found.false) ∙ ap (λ (b : Bool). filled_bytes b c.reach_next.new.into.key) c.if-not-more.false in
    behind_is_there es c.args.key.now next
    (behind c.args.widths (g.P.Pages.store c.args.store.now) c.args.root c.args.key.now there.reaches.leaf _ next some
    there.reaches.reaches (λ ascend. ap (λ (b : Bool). filled_entry b c.reach_next.new.into) (sym c.if-found.false) ∙ there.reaches.is ascend) pages es holds)
    (ap (λ (b : Bool). filled_bytes b c.get_into.new.into) (sym c.if-branch.false)
    ∙ c.in_ok-get_into.ensures.found mid_honest pages es mid_holds ∙ ap (find_entry es) c.deref.ensures.0)

pub returns-then-root-eq0-clause-read : goal.returns-then-root-eq0-clause-read
returns-then-root-eq0-clause-read g c = read_refl _

pub returns-in_err-get_into-clause-read : goal.returns-in_err-get_into-clause-read
returns-in_err-get_into-clause-read g c = read_then c.in_ok-found.ensures.read c.in_err-get_into.ensures.read

pub returns-then-branch-clause-read : goal.returns-then-branch-clause-read
returns-then-branch-clause-read g c = read_then c.in_ok-found.ensures.read c.in_ok-get_into.ensures.read

pub returns-else-branch-clause-read : goal.returns-else-branch-clause-read
returns-else-branch-clause-read g c = read_then c.in_ok-found.ensures.read c.in_ok-get_into.ensures.read
