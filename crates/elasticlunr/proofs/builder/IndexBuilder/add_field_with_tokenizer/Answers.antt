use Rattle.elasticlunr.proofs.Holding.{if_ok}
use Rattle.elasticlunr.proofs.builder.IndexBuilder.add_field_with_tokenizer.Goals as goal

pub returns-clause-chosen : goal.returns-clause-chosen
returns-clause-chosen g c = if_ok c.with_field.result _ _ (λ builder is. (
  c.new.result,
  is,
  λ value tokens. (
    λ may. record {
      alloc = may.alloc;
      given = may.given;
      made = may.made;
      of_value = may.of_value;
      answered =
          rw (← c.new.ensures) may.answered;
      are = may.are;
    },
    λ may. record {
      alloc = may.alloc;
      given = may.given;
      made = may.made;
      of_value = may.of_value;
      answered =
          rw c.new.ensures may.answered;
      are = may.are;
    },
  ),
)) c.with_field.ensures.chosen

pub returns-clause-duplicate : goal.returns-clause-duplicate
returns-clause-duplicate g c = c.with_field.ensures.duplicate

pub returns-clause-errors : goal.returns-clause-errors
returns-clause-errors g c = c.with_field.ensures.errors
