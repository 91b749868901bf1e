-- Sectors that wait are written to the file.
use Rattle.std.proofs.Common.{◌≡◌, ◌⊎◌, inl, inr, ℕ, ◌+◌, ◌-◌, ◌*◌, ◌/◌, ◌%◌, ◌<◌, ◌≤◌, Bool, true, false, List, length, Some, refl, sym, ap, subst, ◌∙◌, arith, take, drop, length-take, length-drop}
use Rattle.std.specs.Prelude.{Option}
use Rattle.std.specs.Bool.{OnTrue}
use Rattle.std.proofs.lemmas.Bool.{cases_lt}
use Rattle.std.proofs.lemmas.Option.{same_Some}
use Rattle.file_disk.specs.declared.waiting_page.WaitingPage.{WaitingPage}
use Rattle.file_disk.specs.Bytes.{bytes_at, sector_of, LeavesOthers}
use Rattle.file_disk.specs.WaitingSectors.{page_at, has_sector, slot_of, given, shown_of}
use Rattle.file_disk.specs.lemmas.WaitingSectors.{AreDistinct, IsRun, IsInFile, AreInFile, Puts}
use Rattle.file_disk.proofs.Slots.{slot_found, sector_of_page}
use Rattle.file_disk.proofs.SectorPlaces.{part_of}

-- what is so where a test is true
pub on_true : {P : Type 0} (b : Bool) → OnTrue b P → b ≡ true → P
on_true true so is = so
on_true false so is = cc

pub true_on : {P : Type 0} (b : Bool) → (b ≡ true → P) → OnTrue b P
true_on true so = so refl
true_on false so = tt

-- the part of a slice that is passed on
pub part_is : (lent bytes : List ℕ) (from count : ℕ) → lent ≡ bytes → take (from + count - from) (drop from lent) ≡ bytes_at bytes from count
part_is lent bytes from count is = ap (λ (n : ℕ). take n (drop from lent)) (omega arith) ∙ ap (λ (b : List ℕ). bytes_at b from count) is

pub part_long : (bytes : List ℕ) (from count : ℕ) → from + count ≤ length bytes → length (bytes_at bytes from count) ≡ count
part_long bytes from count within = length-take count (drop from bytes) ∙ omega (arith, length-drop from bytes)

-- a sector of a part
sector_in_part : (bytes : List ℕ) (first sectors k : ℕ) → k < sectors
    → bytes_at (bytes_at bytes (512 * first) (512 * sectors)) (512 * k) 512 ≡ sector_of bytes (first + k)
sector_in_part bytes first sectors k lt =
    part_of bytes (512 * first) (512 * sectors) (512 * k) 512 (omega arith) ∙ ap (λ (n : ℕ). bytes_at bytes n 512) (omega arith)

-- each sector of a part that was written is there
pub written_each : (bytes new part : List ℕ) (first slot sectors : ℕ) → part ≡ bytes_at bytes (512 * slot) (512 * sectors)
    → 512 * slot + 512 * sectors ≤ length bytes → bytes_at new (512 * first) (length part) ≡ part
    → (k : ℕ) → k < sectors → sector_of new (first + k) ≡ sector_of bytes (slot + k)
written_each bytes new part first slot sectors is within written k lt =
    sym (sector_in_part new first sectors k lt)
    ∙ ap (λ (b : List ℕ). bytes_at b (512 * k) 512) (ap (λ (n : ℕ). bytes_at new (512 * first) n) (sym long) ∙ written ∙ is)
    ∙ sector_in_part bytes slot sectors k lt
  where
    long : length part ≡ 512 * sectors
    long = ap (λ (b : List ℕ). length b) is ∙ part_long bytes (512 * slot) (512 * sectors) within

-- each sector is as it was, or it waits
data Put (pages : List WaitingPage) (count : ℕ) (bytes old new : List ℕ) (done : Bool) (k : ℕ) : Type 0 where
  as_before : sector_of new k ≡ sector_of old k → Put pages count bytes old new done k
  from_slot : (slot : ℕ) → slot_of pages count k ≡ Some slot → (done ≡ true → sector_of new k ≡ sector_of bytes slot)
      → Put pages count bytes old new done k

put_each : (pages : List WaitingPage) (count : ℕ) (bytes old new part : List ℕ) (first slot sectors : ℕ) (done : Bool)
    → ((k : ℕ) → k < sectors → slot_of pages count (first + k) ≡ Some (slot + k))
    → part ≡ bytes_at bytes (512 * slot) (512 * sectors) → 512 * slot + 512 * sectors ≤ length bytes
    → LeavesOthers (512 * first) (length part) old new → OnTrue done (bytes_at new (512 * first) (length part) ≡ part)
    → (k : ℕ) → Put pages count bytes old new done k
put_each pages count bytes old new part first slot sectors done wait is within leaves written k = at (cases_lt k first) (cases_lt k (first + sectors))
  where
    long : length part ≡ 512 * sectors
    long = ap (λ (b : List ℕ). length b) is ∙ part_long bytes (512 * slot) (512 * sectors) within

    at : (k < first) ⊎ (first ≤ k) → (k < first + sectors) ⊎ (first + sectors ≤ k) → Put pages count bytes old new done k
    at (inl before) _ = as_before (leaves.before (512 * k) 512 (omega arith))
    at (inr from) (inr behind) = as_before (leaves.behind (512 * k) 512 (omega (arith, long)))
    at (inr from) (inl to) =
        let there : first + (k - first) ≡ k = omega arith in
        from_slot (slot + (k - first)) (ap (slot_of pages count) (sym there) ∙ wait (k - first) (omega arith))
        (λ is_done. ap (sector_of new) (sym there)
        ∙ written_each bytes new part first slot sectors is within (on_true done written is_done) (k - first) (omega arith))

-- where a sector of a place waits
pub waits_at : (pages : List WaitingPage) (count p s : ℕ) → AreDistinct pages count → p < count → s < 8 → has_sector (page_at pages p) s ≡ true
    → slot_of pages count (8 * (page_at pages p).number + s) ≡ Some (8 * p + s)
waits_at pages count p s distinct p_lt s_lt has =
    let both : ((8 * (page_at pages p).number + s) / 8 ≡ (page_at pages p).number) × ((8 * (page_at pages p).number + s) % 8 ≡ s) =
    sector_of_page (page_at pages p).number s (8 * (page_at pages p).number + s) s_lt refl in
    slot_found pages count p (8 * (page_at pages p).number + s) distinct p_lt (sym both.0) (ap (has_sector (page_at pages p)) both.1 ∙ has)
    ∙ ap (λ (n : ℕ). Some (8 * p + n)) both.1

-- such a write shows the same, and what was in the file stays there
pub write_puts : (pages : List WaitingPage) (count : ℕ) (bytes old new part : List ℕ) (first slot sectors : ℕ) (done : Bool) → AreDistinct pages count
    → ((k : ℕ) → k < sectors → slot_of pages count (first + k) ≡ Some (slot + k))
    → part ≡ bytes_at bytes (512 * slot) (512 * sectors) → 512 * slot + 512 * sectors ≤ length bytes
    → LeavesOthers (512 * first) (length part) old new → OnTrue done (bytes_at new (512 * first) (length part) ≡ part)
    → Puts pages count bytes old new done
write_puts pages count bytes old new part first slot sectors done distinct wait is within leaves written = record {
  same = record { same_length = leaves.same_length; shown = λ k. shown k (each k) };
  stays = λ is_done p s p_lt s_lt was has. stays is_done p s p_lt s_lt was has (each (8 * (page_at pages p).number + s));
}
  where
    each : (k : ℕ) → Put pages count bytes old new done k
    each = put_each pages count bytes old new part first slot sectors done wait is within leaves written

    shown : (k : ℕ) → Put pages count bytes old new done k → shown_of pages count bytes new k ≡ shown_of pages count bytes old k
    shown k (as_before same) = ap (λ (b : List ℕ). given bytes b (slot_of pages count k)) same
    shown k (from_slot slot waits there) =
        ap (λ (o : Option ℕ). given bytes (sector_of new k) o) waits ∙ sym (ap (λ (o : Option ℕ). given bytes (sector_of old k) o) waits)

    stays : done ≡ true → (p s : ℕ) → p < count → s < 8 → IsInFile pages bytes old p s → has_sector (page_at pages p) s ≡ true
        → Put pages count bytes old new done (8 * (page_at pages p).number + s)
        → sector_of new (8 * (page_at pages p).number + s) ≡ sector_of bytes (8 * p + s)
    stays is_done p s p_lt s_lt was has (as_before same) = same ∙ was has
    stays is_done p s p_lt s_lt was has (from_slot slot waits there) =
        let k : ℕ = 8 * (page_at pages p).number + s in
        there is_done ∙ ap (sector_of bytes) (same_Some _ _ (sym waits ∙ waits_at pages count p s distinct p_lt s_lt has))

-- the sectors of a run wait side by side
pub run_waits : (pages : List WaitingPage) (count place run : ℕ) → AreDistinct pages count → IsRun pages count place run
    → (k : ℕ) → k < 8 * run → slot_of pages count (8 * (page_at pages place).number + k) ≡ Some (8 * place + k)
run_waits pages count place run distinct is k lt =
    let in_run : k / 8 < run = omega arith in
    let number : (page_at pages (place + k / 8)).number ≡ (page_at pages place).number + k / 8 = is.next (k / 8) in_run in
    ap (slot_of pages count) (omega arith)
    ∙ waits_at pages count (place + k / 8) (k % 8) distinct (omega (arith, is.within)) (omega arith) (is.whole (k / 8) (k % 8) in_run (omega arith))
    ∙ ap (λ (n : ℕ). Some n) (omega arith)

-- one write after another
pub puts_then : (pages : List WaitingPage) (count : ℕ) (bytes old mid new : List ℕ) (done : Bool) → Puts pages count bytes old mid true
    → Puts pages count bytes mid new done → Puts pages count bytes old new done
puts_then pages count bytes old mid new done first second = record {
  same = record { same_length = second.same.same_length ∙ first.same.same_length; shown = λ k. second.same.shown k ∙ first.same.shown k };
  stays = λ is p s p_lt s_lt was. second.stays is p s p_lt s_lt (first.stays refl p s p_lt s_lt was);
}

-- none at all
pub puts_none : (pages : List WaitingPage) (count : ℕ) (bytes old : List ℕ) → Puts pages count bytes old old true
puts_none pages count bytes old = record { same = record { same_length = refl; shown = λ k. refl }; stays = λ is p s p_lt s_lt was. was }

-- a part fits where this many bytes do
pub part_fits : (part bytes : List ℕ) (from count first end : ℕ) → part ≡ bytes_at bytes from count → from + count ≤ length bytes
    → first + count ≤ end → first + length part ≤ end
part_fits part bytes from count first end is within fits =
    let long : length part ≡ count = ap (λ (b : List ℕ). length b) is ∙ part_long bytes from count within in omega arith

-- one sector of a place waits by itself
pub one_waits : (pages : List WaitingPage) (count place s : ℕ) (page : WaitingPage) → AreDistinct pages count → page_at pages place ≡ page → place < count
    → s < 8 → has_sector page s ≡ true → (k : ℕ) → k < 1 → slot_of pages count (8 * page.number + s + k) ≡ Some (8 * place + s + k)
one_waits pages count place s page distinct is lt s_lt has k k_lt =
    let number : (page_at pages place).number ≡ page.number = ap (λ (w : WaitingPage). w.number) is in
    ap (slot_of pages count) (omega (arith, number))
    ∙ waits_at pages count place s distinct lt s_lt (ap (λ (w : WaitingPage). has_sector w s) is ∙ has)
    ∙ ap (λ (n : ℕ). Some n) (omega arith)

-- and is in the file once it was written
pub one_put : (pages : List WaitingPage) (bytes new : List ℕ) (place s : ℕ) (page : WaitingPage) → page_at pages place ≡ page
    → ((k : ℕ) → k < 1 → sector_of new (8 * page.number + s + k) ≡ sector_of bytes (8 * place + s + k)) → IsInFile pages bytes new place s
one_put pages bytes new place s page is put = λ has.
    let number : (page_at pages place).number ≡ page.number = ap (λ (w : WaitingPage). w.number) is in
    ap (sector_of new) (omega (arith, number)) ∙ put 0 (omega arith) ∙ ap (sector_of bytes) (omega arith)

-- each sector of a run is in the file once it was written
pub run_put : (pages : List WaitingPage) (count : ℕ) (bytes new : List ℕ) (place run first : ℕ) → first ≡ (page_at pages place).number
    → IsRun pages count place run → ((k : ℕ) → k < 8 * run → sector_of new (8 * first + k) ≡ sector_of bytes (8 * place + k))
    → (k s : ℕ) → k < run → s < 8 → IsInFile pages bytes new (place + k) s
run_put pages count bytes new place run first first_is is put k s k_lt s_lt has =
    let number : (page_at pages (place + k)).number ≡ (page_at pages place).number + k = is.next k k_lt in
    ap (sector_of new) (omega (arith, number)) ∙ put (8 * k + s) (omega arith) ∙ ap (sector_of bytes) (omega arith)

-- all pages of a run have a number of it, and no others
pub run_has : (pages : List WaitingPage) (count : ℕ) (bytes new : List ℕ) (place run : ℕ) → AreDistinct pages count → IsRun pages count place run
    → ((k s : ℕ) → k < run → s < 8 → IsInFile pages bytes new (place + k) s)
    → AreInFile pages count bytes (page_at pages place).number ((page_at pages place).number + run) new
run_has pages count bytes new place run distinct is put p s p_lt s_lt from to =
    let k : ℕ = (page_at pages p).number - (page_at pages place).number in
    let k_lt : k < run = omega arith in
    let number : (page_at pages (place + k)).number ≡ (page_at pages p).number = is.next k k_lt ∙ omega arith in
    let there : place + k ≡ p = distinct (place + k) p (omega (arith, is.within)) p_lt number in
    subst (λ (q : ℕ). IsInFile pages bytes new q s) there (put k s k_lt s_lt)
