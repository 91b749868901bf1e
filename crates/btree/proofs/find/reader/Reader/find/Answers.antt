use Rattle.btree.proofs.finds.Lookups.{none_found}
use Rattle.btree.proofs.finds.LastLeaf.{belongs_found, found_after, found_on, none_found_on, not_on}
use Rattle.page_store.specs.lemmas.Frames.{read_refl}
use Rattle.std.proofs.Common.{refl}
use Rattle.btree.proofs.find.reader.Reader.find.Goals as goal

pub returns-then-self-eq0-clause-found : goal.returns-then-self-eq0-clause-found
returns-then-self-eq0-clause-found g c = λ honest. none_found c.args.self.now.widths
    (g.P.Pages.store c.args.store.now) c.args.self.now.root c.args.key.now c.if-self-eq0.true

pub returns-in-Some-clause-found : goal.returns-in-Some-clause-found
returns-in-Some-clause-found g c = λ honest pages es holds.
    found_on c.args.self.now.widths c.args.self.now.leaf c.in-Some.place c.args.key.now c.in-Some.ensures.some es
    (c.requires honest c.in-Some.ensures.page pages es holds)

pub returns-in-Some-place_in-clause-reader : goal.returns-in-Some-place_in-clause-reader
returns-in-Some-place_in-clause-reader g c = record {
  map = record { widths = refl; root = refl };
  reading =
      found_after c.args.self.now.widths (g.P.Pages.store c.args.store.now)
      (g.P.Pages.store c.reach_leaf.new.store) c.args.self.now.root c.reach_leaf.new.leaf c.args.key.now
      c.in_ok-reach_leaf.ensures.read.unchanged c.in_ok-reach_leaf.ensures.read.works c.in_ok-reach_leaf.ensures.belongs;
}

pub returns-in-Some-place_in-clause-found : goal.returns-in-Some-place_in-clause-found
returns-in-Some-place_in-clause-found g c = λ honest pages es holds.
    let (next, belongs) = c.in_ok-reach_leaf.ensures.belongs honest pages es holds in
    found_on c.args.self.now.widths c.reach_leaf.new.leaf c.in-Some-place_in.place c.args.key.now c.in-Some-place_in.ensures.some es
    (belongs_found es c.args.key.now _ next belongs)

pub returns-in-None-clause-reader : goal.returns-in-None-clause-reader
returns-in-None-clause-reader g c = record {
  map = record { widths = refl; root = refl };
  reading =
      found_after c.args.self.now.widths (g.P.Pages.store c.args.store.now)
      (g.P.Pages.store c.reach_leaf.new.store) c.args.self.now.root c.reach_leaf.new.leaf c.args.key.now
      c.in_ok-reach_leaf.ensures.read.unchanged c.in_ok-reach_leaf.ensures.read.works c.in_ok-reach_leaf.ensures.belongs;
}

pub returns-in-None-clause-found : goal.returns-in-None-clause-found
returns-in-None-clause-found g c = λ honest.
    not_on c.args.self.now.widths (g.P.Pages.store c.args.store.now) c.args.self.now.root c.args.key.now c.reach_leaf.new.leaf
    (c.in_ok-reach_leaf.ensures.belongs honest) c.in-None.ensures.none

pub returns-in_err-reach_leaf-clause-reader : goal.returns-in_err-reach_leaf-clause-reader
returns-in_err-reach_leaf-clause-reader g c = record {
  map = record { widths = refl; root = refl };
  reading =
      none_found_on c.args.self.now.widths (g.P.Pages.store c.reach_leaf.new.store) c.args.self.now.root c.reach_leaf.new.leaf c.in_err-reach_leaf.ensures.none;
}

pub returns-then-self-eq0-clause-read : goal.returns-then-self-eq0-clause-read
returns-then-self-eq0-clause-read g c = read_refl _

pub returns-in-Some-clause-read : goal.returns-in-Some-clause-read
returns-in-Some-clause-read g c = read_refl _
