use Rattle.page_store.specs.lemmas.Works.{works_refl}
use Rattle.page_store.proofs.store.PageStorePages.edit_page.Goals as goal

pub returns-then-self-clause-works : goal.returns-then-self-clause-works
returns-then-self-clause-works g c = works_refl _
