use Rattle.std.proofs.Common.{arith, refl, subst}
use Rattle.json.specs.Lex.{tokens}
use Rattle.serde_json.specs.Data.{depth}
use Rattle.elasticlunr.specs.Shape.{HasLanguage}
use Rattle.elasticlunr_print.proofs.Held.{language_held}
use Rattle.elasticlunr_print.proofs.ReadBack.{printed_reads}
use Rattle.elasticlunr_print.proofs.Shapes.{index_parts}
use Rattle.elasticlunr_search.proofs.Whole.{of_parts}
use Rattle.elasticlunr_search.proofs.Stages.{stages_held}
use Rattle.elasticlunr_search.proofs.rebuilt_index.judged.Goals as goal

pub returns : goal.returns
returns c =
    let v = c.in_ok-is_text_of.ensures c.if-not-branch.false in (
      v.0,
      (
        depth v.0,
        (printed_reads _ _ _ v.0 c.args.text.now (tokens c.args.text.now) v.1.printed refl v.2
            v.3).reads_within (depth v.0) (omega arith),
      ),
      record {
        parts = of_parts v.0 _ _ _ (rw (c.deref-3.ensures.value, c.deref-5.ensures.value) at
            (index_parts _ _ _ v.0 v.1)) c.requires;
        language = subst (HasLanguage v.0) c.as_str-2.ensures.value (language_held _ _ _ v.0 v.1.printed);
        stages = rw (c.deref-4.ensures.value) at (stages_held _ _ _ v.0 v.1.printed);
      },
    )
