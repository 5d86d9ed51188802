use Rattle.std.proofs.Common.{[], sym, subst}
use Rattle.elasticlunr_store.specs.Contents.{IsContents, contents_of}
use Rattle.elasticlunr_store_maps.proofs.AreContents.{are_contents}
use Rattle.elasticlunr_store_maps.proofs.Kept.{new_kept, small_empty}
use Rattle.elasticlunr_store.proofs.document_store.DocumentStore.new.Goals as goal

pub invariant_of-result : goal.invariant_of-result
invariant_of-result c = subst IsContents (λ i. contents_of c.args.save (sym c.new.ensures.empty i)
    (sym c.new-2.ensures.empty i)) (are_contents c.args.save [] [] (new_kept c.args.save) small_empty)

pub returns-clause-contents : goal.returns-clause-contents
returns-clause-contents c = subst IsContents
    (λ i. contents_of c.args.save (sym c.new.ensures.empty i) (sym c.new-2.ensures.empty i))
    (are_contents c.args.save [] [] (new_kept c.args.save) small_empty)
