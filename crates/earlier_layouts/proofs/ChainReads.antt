-- What a chain that the slot names gives, and why it gives nothing.
use Rattle.std.proofs.Common.{◌≡◌, ℕ, ◌≤◌, List, Option, None, Some, length, Contains, IsTrue, refl, sym, ◌∙◌, ap, subst, arith}
use Rattle.page_store.specs.declared.fault.PageFault.{PageFault}
use Rattle.page_store.specs.declared.fault.PageFault.TheVariants.{Disk, NotATable, Damaged, TableFull, OutOfMemory, Closed}
use Rattle.page_store.specs.declared.marks.Mark.TheVariants.{Committed, Waiting}
use Rattle.page_store.specs.Marks.{mark}
use Rattle.page_store.specs.Spelled.{SpelledBy}
use Rattle.page_store.specs.Store.{Store, reads}
use Rattle.page_chain.specs.Causes.{ChainReadCause as ChainCause}
use Rattle.page_chain.specs.Chain.{IsChain}
use Rattle.page_chain.specs.lemmas.EveryChain.{a_chain_has_one_content}
use Rattle.table.specs.InMemory.{stored_in}
use Rattle.game_file.specs.declared.sizes.Sizes.{Sizes}
use Rattle.earlier_layouts.specs.Length.{bytes_in}
use Rattle.earlier_layouts.specs.Spelled.{SpellsTable}
use Rattle.earlier_layouts.specs.lemmas.Laws.{tables_have_their_length}
use Rattle.earlier_layouts.specs.declared.slot.GameSlot.{GameSlot}
use Rattle.game_file.specs.lemmas.Packings.{some_number}
use Rattle.earlier_layouts.specs.Slot.{sizes_in, number_of_packing, SaysGame, IsNoSlot}
use Rattle.earlier_layouts.specs.declared.game.Game.{Game}
use Rattle.earlier_layouts.specs.File.{kept_in}
use Rattle.game_file.specs.Kept.{Kept}
use Rattle.earlier_layouts.specs.Held.{KeepsGame, KeepsTable}
use Rattle.earlier_layouts.specs.lemmas.StoredLaws.{game_rests_on_its_pages, few_edges}
use Rattle.earlier_layouts.specs.ReadCauses.{GameReadCause}
use Rattle.earlier_layouts.specs.lemmas.FileReads.{IsGameIn, SpellingCause, IsReadFromPages}

-- where the slot says nothing nothing is kept
pub no_slot_keeps : (root : List ℕ) (capacity : ℕ) (bytes : ℕ → List ℕ) → capacity ≤ 1048576 → IsNoSlot root → (kept : Option Kept)
    → KeepsTable root capacity kept bytes → ⊥
no_slot_keeps root capacity bytes few none None keeps = none.not_empty keeps
no_slot_keeps root capacity bytes few none (Some kept) keeps = none.no_game keeps.layout kept.packing keeps.packing keeps.limits
    (few_edges root capacity kept bytes few keeps)

module _ (old : Store) (slot : GameSlot) (says : SaysGame old.root slot) where
  -- the slot names a game, and where no game is kept nothing is
  nothing_kept : ((kept : Kept) → KeepsGame old.root (length old.marks) kept (reads old) → ⊥) → (kept : Option Kept)
      → KeepsTable old.root (length old.marks) kept (reads old) → ⊥
  nothing_kept none None keeps = omega (arith, keeps.packing, says.packing, some_number slot.packing)
  nothing_kept none (Some kept) keeps = none kept keeps

  -- the chain of a game that is kept
  game_chain : (kept : Kept) (game : KeepsGame old.root (length old.marks) kept (reads old))
      → IsChain (length old.marks) slot.first game.pages game.content (reads old)
  game_chain kept game = subst (λ (first : ℕ). IsChain (length old.marks) first game.pages game.content (reads old)) (sym says.first) game.chain

  -- and how long its content is
  game_long : (kept : Kept) (game : KeepsGame old.root (length old.marks) kept (reads old)) → length game.content ≡ bytes_in slot.sizes
  game_long kept game = tables_have_their_length (sizes_in old.root) game.content kept.text kept.table game.spells ∙ ap bytes_in (sym says.sizes)

  -- why its chain is not read is why the file is not
  pub chain_cause : (new : Store) (long : ℕ) (fault : PageFault) → long ≡ bytes_in slot.sizes → ChainCause slot.first long old new fault
      → GameReadCause old new fault
  chain_cause new long Disk is cause = cause
  chain_cause new long NotATable is cause = cause
  chain_cause new long Damaged is cause = λ honest wait kept keeps.
      absurd (nothing_kept (λ k game.
      let chain = game_chain k game in
      cause honest game.pages game.content (game_long k game ∙ sym is) (λ p here. wait p (chain.within p here).0 (chain.within p here).1) chain) kept keeps)
  chain_cause new long TableFull is cause = cause
  chain_cause new long OutOfMemory is cause = cause
  chain_cause new long Closed is cause = cause

  module _ (pages content : List ℕ) (chain : IsTrue old.disk.honest → IsChain (length old.marks) slot.first pages content (reads old)) where
    no_table : IsTrue old.disk.honest → length content ≡ bytes_in slot.sizes → SpellingCause slot.sizes content Damaged → (kept : Kept)
        → KeepsGame old.root (length old.marks) kept (reads old) → ⊥
    no_table honest long cause kept game =
        let (on, same) =
        a_chain_has_one_content (length old.marks) slot.first game.pages pages game.content content (reads old) (game_chain kept game)
        (chain honest) (game_long kept game ∙ sym long) in
        let spelled : SpellsTable slot.sizes game.content kept.text kept.table =
        subst (λ (sizes : Sizes). SpellsTable sizes game.content kept.text kept.table) (sym says.sizes) game.spells in
        cause kept.text kept.table game.table (game.counts ∙ ap (λ (sizes : Sizes). sizes.counts) (sym says.sizes))
        (subst (λ (bytes : List ℕ). SpellsTable slot.sizes bytes kept.text kept.table) same spelled)

    -- why its content gives no table is why the file is not read
    pub table_cause : (new : Store) (fault : PageFault) → length content ≡ bytes_in slot.sizes → SpellingCause slot.sizes content fault
        → GameReadCause old new fault
    table_cause new Disk long cause = absurd cause
    table_cause new NotATable long cause = cause
    table_cause new Damaged long cause = λ honest wait kept keeps. absurd (nothing_kept (no_table honest long cause) kept keeps)
    table_cause new TableFull long cause = cause
    table_cause new OutOfMemory long cause = cause
    table_cause new Closed long cause = absurd cause

    keeps_read : (game : Game) → IsGameIn slot.packing slot.sizes pages content game → IsTrue old.disk.honest
        → KeepsGame old.root (length old.marks) (kept_in game) (reads old)
    keeps_read game is honest = record {
      layout = says.layout;
      packing = says.packing ∙ ap number_of_packing (sym is.packing);
      no_goal = refl;
      limits = says.limits;
      pages = pages;
      content = content;
      chain = subst (λ (first : ℕ). IsChain (length old.marks) first pages content (reads old)) says.first (chain honest);
      spells = subst (λ (sizes : Sizes). SpellsTable sizes content game.text.items (stored_in game.table)) says.sizes
          (subst (λ (text : List ℕ). SpellsTable slot.sizes content text (stored_in game.table)) (sym is.text) is.table.spelled);
      table = is.table.whole.fits.table;
      counts = is.table.whole.counts ∙ ap (λ (sizes : Sizes). sizes.counts) says.sizes;
    }

    -- the game was read from the pages of the chain
    pub game_read : (new : Store) → ((p : ℕ) → Contains pages p → mark old.marks p ≡ Waiting) → ((p : ℕ) → Contains pages p → mark new.marks p ≡ Committed)
        → (game : Game) → IsGameIn slot.packing slot.sizes pages content game → IsReadFromPages game.pages.items (Some (kept_in game)) old new
    unfolding keeps_read
    game_read new waited marked game is = record {
      waited = λ p here. waited p (subst (λ (ps : List ℕ). Contains ps p) is.on here);
      marked = λ p here. marked p (subst (λ (ps : List ℕ). Contains ps p) is.on here);
      none = λ none. absurd (cc);
      held = λ honest.
          subst (λ (ps : List ℕ). SpelledBy (λ p. Contains ps p) (reads old) (KeepsTable old.root (length old.marks) (Some (kept_in game)))) (sym is.on)
          (game_rests_on_its_pages old.root (length old.marks) (kept_in game) (reads old) (keeps_read game is honest));
    }
