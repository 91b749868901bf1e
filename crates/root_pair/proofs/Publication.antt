-- What a stop within the two halves of `publish` leaves.
use Rattle.std.specs.Prelude.{Result}
use Rattle.std.proofs.Common.{◌≡◌, ◌≢◌, inl, inr, ℕ, ◌-◌, ◌%◌, ◌≤◌, List, length, take, slice_index, IsTrue, refl, ◌∙◌, ap, subst, arith}
use Rattle.std.proofs.lemmas.Bool.{cases_eq}
use Rattle.sector_disk.specs.Disk.{Image, sector, Shown, Agrees, MayLeave, Keeps, AllSynced, Disk, Steps, LeavesOnly}
use Rattle.sector_disk.specs.lemmas.Disk.{KeepsThroughout}
use Rattle.sector_disk.specs.lemmas.Moments.{goes_on_trans, leaves_step, leaves_then, leaves_more, still_honest}
use Rattle.root_pair.specs.lemmas.Rest.{bit, same_root, rest_leaves}
use Rattle.root_pair.specs.Root.{picked, spare_by, turned, IsAtRest, IsPublished, OldOrNew}
use Rattle.root_pair.specs.Frames.{IsPublishing, IsUnpublished}
use Rattle.root_pair.specs.declared.fault.RootFault.{RootFault}
use Rattle.root_pair.specs.lemmas.Frames.{IsLookedAt, IsWrittenElsewhere}

-- the first half: only the spare slot is open
pub first_half : (shown : Shown) (root : List ℕ) (spare : ℕ) → IsAtRest shown → spare ≡ 3 - bit shown.contents → (image : Image)
    → Agrees shown (λ k. (k ≢ spare) × IsTrue (shown.synced k)) image → OldOrNew shown root image
first_half shown root spare rest is image left =
    inl (
      same_root shown image rest left.no_shorter
          (left.same 0 ((omega arith), rest.synced 0 (omega arith)))
          (ap (λ (s : List ℕ). slice_index s 0 % 2) (left.same 1 ((omega arith), rest.synced 1 (omega arith))))
          (left.same (picked shown.contents) ((omega arith), rest.synced (picked shown.contents) (omega arith))),
      record { no_shorter = left.no_shorter; no_longer = left.no_longer; same = λ k at. left.same k ((omega (arith, at.0)), at.1) },
    )

-- the second half: only the gate is open, and it picks the one slot or the other
pub second_half : (old shown : Shown) (root : List ℕ) (spare : ℕ) → IsAtRest old → spare ≡ 3 - bit old.contents
    → Keeps (λ k. k ≢ spare) old shown → sector shown.contents spare ≡ root → AllSynced shown
    → (image : Image) → Agrees shown (λ k. (k ≢ 1) × IsTrue (shown.synced k)) image → OldOrNew old root image
second_half old shown root spare rest is changed written synced image left = elim (cases_eq (bit image) (bit old.contents)) [
  | inl same ↦ inl (
    same_root old image rest longer header same (kept (picked old.contents) (omega arith) (omega arith)),
    agrees (λ k. (4 ≤ k) × IsTrue (old.synced k)) (λ k at. at.0),
  )
  | inr other ↦ inr (
    record {
      table = record { enough = omega (arith, longer, rest.lasting); begins = ap (λ (s : List ℕ). take 8 s) header ∙ rest.table.begins };
      is = (let slot : picked image ≡ spare = omega (arith, is, other) in ap (λ (k : ℕ). sector image k) slot)
          ∙ left.same spare ((omega (arith, is)), synced.synced spare) ∙ written;
    },
    agrees (λ k. 4 ≤ k) (λ k at. at),
  )
]
  where
    kept : (k : ℕ) → k ≢ 1 → k ≢ spare → sector image k ≡ sector old.contents k
    kept k gate slot = left.same k (gate, synced.synced k) ∙ changed.contents k slot

    longer : old.lasting ≤ length image
    longer = omega (arith, changed.lasting, left.no_shorter)

    header : sector image 0 ≡ sector old.contents 0
    header = kept 0 (omega arith) (omega (arith, is))

    agrees : (at : ℕ → Type 0) → ((k : ℕ) → at k → 4 ≤ k) → Agrees old at image
    agrees at behind = record {
      no_shorter = longer;
      no_longer = omega (arith, left.no_longer, changed.same_size);
      same = λ k is_at. let le = behind k is_at in kept k (omega (arith, le)) (omega (arith, is, le));
    }

-- the bit of a turned gate
first_of_turned : (bytes : List ℕ) → slice_index (turned bytes) 0 ≡ 1 - slice_index bytes 0 % 2
unfolding turned
first_of_turned bytes = refl

-- the old root and all that was synced, as at the start
pub stays : (shown : Shown) (root : List ℕ) → IsAtRest shown → (image : Image) → MayLeave shown image → OldOrNew shown root image
stays shown root rest image left =
    inl (rest_leaves shown rest image left, record { no_shorter = left.no_shorter; no_longer = left.no_longer; same = λ k at. left.same k at.1 })

module _ (root : List ℕ) (start read : Disk) (honest : IsTrue start.honest) (rest : IsAtRest start.now) (step : Steps start read)
    (unchanged : IsTrue start.honest → read.now ≡ start.now) where
  -- the gate is read
  pub read_gate : LeavesOnly start read (OldOrNew start.now root)
  read_gate = leaves_step step (stays start.now root rest)
      (λ image left. stays start.now root rest image (subst (λ s. MayLeave s image) (unchanged honest) left))

  still : IsTrue read.honest
  still = still_honest step.goes_on honest

  -- the spare slot is put
  pub put_slot : (spare : ℕ) (slot : Disk) → spare ≡ 3 - bit start.now.contents
      → (IsTrue read.honest → KeepsThroughout (λ k. k ≢ spare) read slot) → LeavesOnly start slot (OldOrNew start.now root)
  put_slot spare slot is kept =
      leaves_then (kept still).goes_on read_gate
      (leaves_more (λ image left. first_half start.now root spare rest is image
      (subst (λ s. Agrees s (λ k. (k ≢ spare) × IsTrue (s.synced k)) image) (unchanged honest) left)) (kept still).leaves)

  -- the gate is turned
  pub put_gate : (spare : ℕ) (slot gate : Disk) → spare ≡ 3 - bit start.now.contents → (IsTrue read.honest → KeepsThroughout (λ k. k ≢ spare) read slot)
      → (IsTrue read.honest → sector slot.now.contents spare ≡ root) → (IsTrue read.honest → AllSynced slot.now)
      → (IsTrue slot.honest → KeepsThroughout (λ k. k ≢ 1) slot gate) → LeavesOnly start gate (OldOrNew start.now root)
  put_gate spare slot gate is kept written synced kept_2 =
      let first = kept still in
      let second = kept_2 (still_honest first.goes_on still) in
      let changed : Keeps (λ k. k ≢ spare) start.now slot.now = subst (λ s. Keeps (λ k. k ≢ spare) s slot.now) (unchanged honest) first.keeps in
      leaves_then second.goes_on (put_slot spare slot is kept)
      (leaves_more (second_half start.now slot.now root spare rest is changed (written still) (synced still)) second.leaves)

  -- and then the new root is in force
  pub published : (spare : ℕ) (bytes : List ℕ) (slot gate : Disk) → spare ≡ spare_by bytes → bytes ≡ sector start.now.contents 1
      → (IsTrue read.honest → KeepsThroughout (λ k. k ≢ spare) read slot) → (IsTrue read.honest → sector slot.now.contents spare ≡ root)
      → (IsTrue slot.honest → KeepsThroughout (λ k. k ≢ 1) slot gate) → (IsTrue slot.honest → sector gate.now.contents 1 ≡ turned bytes)
      → (IsTrue slot.honest → AllSynced gate.now) → IsPublished root start.now gate.now
  published spare bytes slot gate is_spare is_bytes kept written kept_2 written_2 synced_2 =
      let first = kept still in
      let second = kept_2 (still_honest first.goes_on still) in
      let turned_is = written_2 (still_honest first.goes_on still) in
      let changed : Keeps (λ k. k ≢ spare) start.now slot.now = subst (λ s. Keeps (λ k. k ≢ spare) s slot.now) (unchanged honest) first.keeps in
      let other : (k : ℕ) → k ≢ 1 → k ≢ spare → sector gate.now.contents k ≡ sector start.now.contents k =
      λ k not_gate not_spare. second.keeps.contents k not_gate ∙ changed.contents k not_spare in
      let bit_is : slice_index (sector gate.now.contents 1) 0 ≡ 1 - slice_index bytes 0 % 2 = ap (λ (s : List ℕ). slice_index s 0) turned_is
      ∙ first_of_turned bytes in
      let slot_is : picked gate.now.contents ≡ spare = omega (arith, bit_is, is_spare) in
      let not_gate : spare ≢ 1 = omega (arith, is_spare) in
      let not_header : 0 ≢ spare = omega (arith, is_spare) in
      record {
        holds = record {
          table = record {
            enough = omega (arith, rest.table.enough, changed.same_size, second.keeps.same_size);
            begins = ap (λ (s : List ℕ). take 8 s) (other 0 (omega arith) not_header) ∙ rest.table.begins;
          };
          is = ap (λ (k : ℕ). sector gate.now.contents k) slot_is ∙ second.keeps.contents spare not_gate ∙ written still;
        };
        pages = λ k le. other k (omega (arith, le)) (omega (arith, is_spare, le));
        synced = synced_2 (still_honest first.goes_on still);
        gate = turned_is ∙ ap turned is_bytes;
        others = λ k a b. other k a (λ same. b (same ∙ is_spare ∙ ap spare_by is_bytes));
      }

-- whatever `publish` answers, each sector but the gate and the spare slot reads as it did
module _ (start read : Disk) (honest : IsTrue start.honest) (step : Steps start read) (unchanged : IsTrue start.honest → read.now ≡ start.now) (k : ℕ) where
  pub other_read : sector read.now.contents k ≡ sector start.now.contents k
  other_read = ap (λ (s : Shown). sector s.contents k) (unchanged honest)

  pub other_slot : (spare : ℕ) (slot : Disk) → k ≢ spare → (IsTrue read.honest → KeepsThroughout (λ k. k ≢ spare) read slot)
      → sector slot.now.contents k ≡ sector start.now.contents k
  other_slot spare slot not_spare kept = (kept (still_honest step.goes_on honest)).keeps.contents k not_spare ∙ other_read

  pub other_gate : (spare : ℕ) (slot gate : Disk) → k ≢ 1 → k ≢ spare → (IsTrue read.honest → KeepsThroughout (λ k. k ≢ spare) read slot)
      → (IsTrue slot.honest → KeepsThroughout (λ k. k ≢ 1) slot gate)
      → sector gate.now.contents k ≡ sector start.now.contents k
  other_gate spare slot gate not_gate not_spare kept kept_2 =
      let first = kept (still_honest step.goes_on honest) in
      (kept_2 (still_honest first.goes_on (still_honest step.goes_on honest))).keeps.contents k not_gate ∙ other_slot spare slot not_spare kept

-- a read alone: nothing is published
pub unpublished : {start read : Disk} → IsLookedAt start read → {X : Type 0} (result : Result X RootFault) → IsUnpublished start read result
unpublished look result = record {
  read = λ honest told. look.unchanged honest;
  unwritten = λ honest told. leaves_step look.time (λ image left. left)
      (λ image left. subst (λ (s : Shown). MayLeave s image) (look.unchanged honest) left);
}

module _ {root : List ℕ} {start read : Disk} (look : IsLookedAt start read) where
  -- `publish` as far as the gate is read
  pub gate_read : {before now : ℕ} → before ≤ now → IsPublishing root start read before now
  gate_read later = record {
    moments = λ honest rest. read_gate root start read honest rest look.time look.unchanged;
    others = λ honest k not_gate not_spare. other_read start read honest look.time look.unchanged k;
    time = look.time.goes_on;
    same_size = look.time.same_size;
    failures = later;
  }

  module _ {bytes : List ℕ} {slot : Disk} {before then : ℕ} (is : IsTrue start.honest → bytes ≡ sector start.now.contents 1)
      (put : IsWrittenElsewhere (λ k. k ≢ spare_by bytes) read slot) (later : before ≤ then) where
    -- as far as the slot
    pub slot_put : IsPublishing root start slot before then
    slot_put = record {
      moments = λ honest rest. put_slot root start read honest rest look.time look.unchanged _ slot (ap spare_by (is honest)) put.kept;
      others = λ honest k not_gate not_spare. other_slot start read honest look.time look.unchanged k _ slot
          (λ same. not_spare (same ∙ ap spare_by (is honest))) put.kept;
      time = goes_on_trans look.time.goes_on put.time;
      same_size = put.same_size ∙ look.time.same_size;
      failures = later;
    }

    -- and to its end
    pub gate_turned : {gate : Disk} {now : ℕ} → (IsTrue read.honest → sector slot.now.contents (spare_by bytes) ≡ root)
        → (IsTrue read.honest → AllSynced slot.now) → IsWrittenElsewhere (λ k. k ≢ 1) slot gate → then ≤ now
        → IsPublishing root start gate before now
    gate_turned {gate} written synced turn last = record {
      moments = λ honest rest. put_gate root start read honest rest look.time look.unchanged _ slot gate (ap spare_by (is honest))
          put.kept written synced turn.kept;
      others = λ honest k not_gate not_spare. other_gate start read honest look.time look.unchanged k _ slot gate not_gate
          (λ same. not_spare (same ∙ ap spare_by (is honest))) put.kept turn.kept;
      time = goes_on_trans slot_put.time turn.time;
      same_size = turn.same_size ∙ slot_put.same_size;
      failures = omega (arith, later, last);
    }
