use Rattle.elasticlunr.proofs.Calling.{document_more}
use Rattle.elasticlunr.proofs.GivenTokens.{may_have_at_more, through_more}
use Rattle.elasticlunr.proofs.laws.given.values_with_tokens_make_what_a_language_makes.Goals as goal

pub returns : goal.returns
returns g c = λ lang reference values document only same is. document_more _ _ _ _
    (may_have_at_more _ _ _ _ only (through_more _ _ (λ token left text. (same token left text).0)) values)
    reference _ document is
