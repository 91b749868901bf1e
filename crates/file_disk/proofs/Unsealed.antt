-- What this crate can compute of an open file, and no other.
use Rattle.std.proofs.Common.{◌≡◌, ℕ, ◌∙◌, IsTrue, sym, subst, refl}
use Rattle.std.specs.Prelude.{false}
use Rattle.sealed.specs.Sealed.{opened}
use Rattle.file_disk.specs.File.{FileView, file_view, unknown_file}

-- what is so of the view behind the seal is so of what callers see
by_seal : (calls : ℕ) (P : FileView → Type 0) {view : FileView} → file_view calls ≡ view → P (unknown_file calls) → P view
by_seal calls P is holds = subst P is (subst P (sym (opened (unknown_file calls))) holds)

no_word_is : (calls : ℕ) {view : FileView} → file_view calls ≡ view → view.honest ≡ false
no_word_is calls is = by_seal calls (λ view. view.honest ≡ false) is refl

-- there is no word that it keeps its promises
pub no_word : (calls : ℕ) {view : FileView} → file_view calls ≡ view → IsTrue view.honest → ⊥
no_word calls is honest = let same = no_word_is calls is in cc

-- and behind each call there is none
pub same_word : (before now : ℕ) {old new : FileView} → file_view before ≡ old → file_view now ≡ new → new.honest ≡ old.honest
same_word before now was is = no_word_is now is ∙ sym (no_word_is before was)
