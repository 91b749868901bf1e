use Rattle.page_store.proofs.CachedPages.{held_reads, kept_some}
use Rattle.page_store.proofs.PageSectors.{sectors_read}
use Rattle.page_store.proofs.store.PageStorePages.bytes_of.Goals as goal

pub returns-in-Some-clause-bytes : goal.returns-in-Some-clause-bytes
returns-in-Some-clause-bytes g c = λ h. sectors_read _ _ _ (c.in-Some.ensures h)

pub returns-in-None-clause-bytes : goal.returns-in-None-clause-bytes
returns-in-None-clause-bytes g c = λ h.
    kept_some c.bytes_of.result (λ bytes there. held_reads _ _ c.args.self.now.cached _ _ there h) c.bytes_of.ensures
