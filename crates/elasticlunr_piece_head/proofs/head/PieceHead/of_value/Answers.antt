use Rattle.std.proofs.Common.{inl, inr, refl}
use Rattle.serde_json.specs.View.{view}
use Rattle.elasticlunr_piece_head.specs.Fault.{no_choice, no_lengths, no_names, no_numbers, no_rising_texts, no_stages, no_text}
use Rattle.elasticlunr_piece_head.proofs.Faults.{misfit_again, sizes_again}
use Rattle.elasticlunr_piece_head.proofs.head.PieceHead.of_value.Goals as goal

pub returns-in_err-fields_in-clause-fault : goal.returns-in_err-fields_in-clause-fault
returns-in_err-fields_in-clause-fault c = misfit_again (view c.args.value.now) _ _ no_names
    c.in_err-fields_in.field-0.0 c.from_residual.result c.from_residual.ensures.1 c.in_err-fields_in.ensures.fault

pub returns-in_err-text_in-clause-fault : goal.returns-in_err-text_in-clause-fault
returns-in_err-text_in-clause-fault c = misfit_again (view c.args.value.now) _ _ (no_text (inl refl))
    c.in_err-text_in.field-0.0 c.from_residual-in_err-text_in.result c.from_residual-in_err-text_in.ensures.1 c.in_err-text_in.ensures.fault

pub returns-in_err-text_in-2-clause-fault : goal.returns-in_err-text_in-2-clause-fault
returns-in_err-text_in-2-clause-fault c = misfit_again (view c.args.value.now) _ _ (no_text (inr (inl refl)))
    c.in_err-text_in-2.field-0.0 c.from_residual-in_err-text_in-2.result c.from_residual-in_err-text_in-2.ensures.1 c.in_err-text_in-2.ensures.fault

pub returns-in_err-lengths_in-clause-fault : goal.returns-in_err-lengths_in-clause-fault
returns-in_err-lengths_in-clause-fault c = misfit_again (view c.args.value.now) _ _ no_lengths
    c.in_err-lengths_in.field-0.0 c.from_residual-in_err-lengths_in.result c.from_residual-in_err-lengths_in.ensures.1 c.in_err-lengths_in.ensures.fault

pub returns-in_err-texts_in-clause-fault : goal.returns-in_err-texts_in-clause-fault
returns-in_err-texts_in-clause-fault c = misfit_again (view c.args.value.now) _ _ no_stages
    c.in_err-texts_in.field-0.0 c.from_residual-in_err-texts_in.result c.from_residual-in_err-texts_in.ensures.1 c.in_err-texts_in.ensures.fault

pub returns-in_err-text_in-3-clause-fault : goal.returns-in_err-text_in-3-clause-fault
returns-in_err-text_in-3-clause-fault c = misfit_again (view c.args.value.now) _ _ (no_text (inr (inr refl)))
    c.in_err-text_in-3.field-0.0 c.from_residual-in_err-text_in-3.result c.from_residual-in_err-text_in-3.ensures.1 c.in_err-text_in-3.ensures.fault

pub returns-in_err-rising_in-clause-fault : goal.returns-in_err-rising_in-clause-fault
returns-in_err-rising_in-clause-fault c = misfit_again (view c.args.value.now) _ _ (no_rising_texts (inl refl))
    c.in_err-rising_in.field-0.0 c.from_residual-in_err-rising_in.result c.from_residual-in_err-rising_in.ensures.1 c.in_err-rising_in.ensures.fault

pub returns-in_err-bool_in-clause-fault : goal.returns-in_err-bool_in-clause-fault
returns-in_err-bool_in-clause-fault c = misfit_again (view c.args.value.now) _ _ no_choice
    c.in_err-bool_in.field-0.0 c.from_residual-in_err-bool_in.result c.from_residual-in_err-bool_in.ensures.1 c.in_err-bool_in.ensures.fault

pub returns-in_err-numbers_in-clause-fault : goal.returns-in_err-numbers_in-clause-fault
returns-in_err-numbers_in-clause-fault c = misfit_again (view c.args.value.now) _ _ (no_numbers (inr (inl refl)))
    c.in_err-numbers_in.field-0.0 c.from_residual-in_err-numbers_in.result c.from_residual-in_err-numbers_in.ensures.1 c.in_err-numbers_in.ensures.fault

pub returns-in_err-numbers_in-2-clause-fault : goal.returns-in_err-numbers_in-2-clause-fault
returns-in_err-numbers_in-2-clause-fault c = misfit_again (view c.args.value.now) _ _ (no_numbers (inr (inr refl)))
    c.in_err-numbers_in-2.field-0.0 c.from_residual-in_err-numbers_in-2.result c.from_residual-in_err-numbers_in-2.ensures.1 c.in_err-numbers_in-2.ensures.fault

pub returns-in_err-rising_in-2-clause-fault : goal.returns-in_err-rising_in-2-clause-fault
returns-in_err-rising_in-2-clause-fault c = misfit_again (view c.args.value.now) _ _ (no_rising_texts (inr refl))
    c.in_err-rising_in-2.field-0.0 c.from_residual-in_err-rising_in-2.result c.from_residual-in_err-rising_in-2.ensures.1 c.in_err-rising_in-2.ensures.fault

pub returns-in_err-sizes_in-clause-fault : goal.returns-in_err-sizes_in-clause-fault
returns-in_err-sizes_in-clause-fault c = sizes_again (view c.args.value.now) c.in_err-sizes_in.field-0.0
    c.from_residual-in_err-sizes_in.result c.from_residual-in_err-sizes_in.ensures.1 c.in_err-sizes_in.ensures.fault
