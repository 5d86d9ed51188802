use Rattle.std.proofs.Common.{◌∙◌, subst, sym, true≢false}
use Rattle.elasticlunr_publish.proofs.Between.{no_folder, one_folder}
use Rattle.elasticlunr_publish.proofs.Numbered.{to_none}
use Rattle.elasticlunr_publish.specs.Names.{IsFolderName}
use Rattle.elasticlunr_publish.proofs.names.folder_in.Goals as goal

pub returns-in_err-name-clause-none : goal.returns-in_err-name-clause-none
returns-in_err-name-clause-none c = to_none c.from_residual-in_err-name.result
    (λ name has is. no_folder c.args.head.now c.in_ok-after.field-0-0.now c.in_ok-after.after.now
    name c.in_ok-after.ensures.some c.in_err-name.ensures.none has)

pub returns-else-is_folder_name-clause-none : goal.returns-else-is_folder_name-clause-none
returns-else-is_folder_name-clause-none c = λ name has is.
    let same = one_folder c.args.head.now c.in_ok-after.field-0-0.now c.in_ok-after.after.now
    c.in_ok-name.name.now c.in_ok-name.field-0-1.now name c.in_ok-after.ensures.some
    c.in_ok-name.ensures.some has in
    true≢false (sym (c.is_folder_name.ensures.1 (subst IsFolderName (sym same) is))
    ∙ c.if-is_folder_name.false)
