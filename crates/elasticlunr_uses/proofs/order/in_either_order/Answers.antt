use Rattle.elasticlunr.specs.AnyLanguage.TheVariants.{English as english}
use Rattle.elasticlunr.specs.Written.{compact_text}
use Rattle.elasticlunr_uses.proofs.order.in_either_order.Goals as goal

pub returns-clause-forwards : goal.returns-clause-forwards
returns-clause-forwards c = c.in_ok-forwards.ensures.text

pub returns-clause-backwards : goal.returns-clause-backwards
returns-clause-backwards c = c.in_ok-backwards.ensures.text

pub returns-clause-equal : goal.returns-clause-equal
returns-clause-equal c apart = c.two_documents_may_come_in_either_order.ensures _ _ _ _ apart english _ compact_text _ _
    c.in_ok-forwards.ensures.text c.in_ok-backwards.ensures.text
