use Rattle.witness.proofs.stop.value_after_a_stop.Goals as goal

pub value_of-requires : goal.value_of-requires
value_of-requires c =
    record {
      honest = c.in-Ok-after_stop.ensures.honest;
      disk = _;
      behind = c.in-Ok-use_table.ensures.used;
      left = rw c.into_inner.ensures at c.in-Ok-after_stop.ensures.image;
    }
