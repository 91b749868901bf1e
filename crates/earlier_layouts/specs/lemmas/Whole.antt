-- A file of layout 1 that is whole is one of which nothing was asked yet.
use Rattle.std.proofs.Common.{refl, arith}
use Rattle.sector_disk.specs.lemmas.Moments.{goes_on_refl, leaves_now}
use Rattle.game_file.specs.Calls.{IsAsked}
use Rattle.page_store.specs.lemmas.Works.{closes_same}
use Rattle.earlier_layouts.specs.Calls.{state_of}
use Rattle.earlier_layouts.specs.File.{FlatFile, IsFile}
use Rattle.earlier_layouts.specs.Held.{Stores}
use Rattle.earlier_layouts.specs.lemmas.StoredLaws.{a_file_is_kept}

pub whole_asked : (file : FlatFile) → IsFile file → IsAsked Stores (state_of file) (state_of file)
whole_asked file whole = record {
  ahead = record {
    goes_on = goes_on_refl file.store.disk;
    same_size = refl;
    failures = omega arith;
    capacity = refl;
    closes = closes_same refl refl;
  };
  commits = refl;
  counts = refl;
  text = refl;
  packing = refl;
  goal = refl;
  kept = λ honest. refl;
  closed = refl;
  leaves = λ honest. leaves_now file.store.disk (λ image left. left);
  since = λ honest is_open. leaves_now file.store.disk (a_file_is_kept file whole honest is_open);
  now = λ honest is_open. a_file_is_kept file whole honest is_open;
}
