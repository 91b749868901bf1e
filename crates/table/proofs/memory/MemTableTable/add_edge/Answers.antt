use Rattle.std.proofs.Common.{◌≡◌, ap, length, ℕ, Bool, List, arith}
use Rattle.std.proofs.lemmas.List.{length-map}
use Rattle.retrograde.specs.Stored.{Stored}
use Rattle.table.specs.Memory.{bytes_of_each}
use Rattle.table.proofs.EdgeLemmas.{edges_added, known_after}
use Rattle.table.proofs.memory.MemTableTable.add_edge.Goals as goal

pub invariant_of-self-clause-known : goal.invariant_of-self-clause-known
invariant_of-self-clause-known c =
    known_after (length c.args.self.now.positions.items) c.args.self.now.edges c.insert.new.self c.args.successor c.args.predecessor c.insert.result
    c.insert.ensures.updates c.insert.ensures.err c.args.self.now.known
    (omega (arith, length-map c.args.self.now.positions.items (λ p. p.items)))
    (omega (arith, length-map c.args.self.now.positions.items (λ p. p.items)))

pub returns-clause-added : goal.returns-clause-added
returns-clause-added c = λ honest.
    let edges = edges_added c.args.self.now.edges c.insert.new.self c.args.successor c.args.predecessor c.in_ok-insert.ensures.updates in
    let same : ◌≡◌ {A = Stored (List ℕ)} _ _ = ap (λ (e : ℕ → ℕ → Bool). let s : Stored (List ℕ) = record {
      positions = bytes_of_each c.args.self.now.positions.items;
      records = c.args.self.now.records.items;
      has_edge = e;
      order = c.args.self.now.order.items;
    } in s) edges in same
