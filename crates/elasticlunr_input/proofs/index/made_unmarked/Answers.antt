use Rattle.std.proofs.Common.{◌≡◌, ◌++◌, ap, subst, sym, ◌∙◌, refl, IfSome}
use Rattle.elasticlunr_job.proofs.Stops.{err_more, ok_more}
use Rattle.elasticlunr_diagnostics.specs.Forms.{asked_or_told}
use Rattle.elasticlunr_input.specs.Indexes.{IsPlacedIfNotJson, IsRefusedInput}
use Rattle.elasticlunr_input.specs.Inputs.{HasHead}
use Rattle.elasticlunr_diagnostics.specs.Messages.{IfPlaced}
use Rattle.elasticlunr_input.specs.RefusedPlaces.{IsInputPlace}
use Rattle.elasticlunr_input.specs.Settled.{settings_told}
use Rattle.elasticlunr_diagnostics.specs.declared.form.Form.TheVariants.{Job, Objects}
use Rattle.elasticlunr_input.proofs.HeadLemmas.{exit_at}
use Rattle.elasticlunr_input.specs.NotedFrom.{IsNotedAs}
use Rattle.elasticlunr_input.proofs.InputLemmas.{err_three, lines_as, lines_err, lines_ok, not_read, whole_as, whole_err, whole_ok}
use Rattle.elasticlunr_input.proofs.NotingAll.{on_more}
use Rattle.elasticlunr_input.proofs.index.made_unmarked.Goals as goal

pub returns-in_err-text-clause-err : goal.returns-in_err-text-clause-err
returns-in_err-text-clause-err g c =
    exit_at c.from_residual.result _ c.in_err-text.field-0.0 c.from_residual.ensures.1
    (not_read c.args.asked (settings_told c.args.settings.now) (g.R.Read.remaining c.args.reader.now)
    c.in_err-text.field-0.0 c.in_err-text.ensures.err)

pub returns-in-Lines-clause-ok : goal.returns-in-Lines-clause-ok
returns-in-Lines-clause-ok g c =
    let left = g.R.Read.remaining in
    let head = c.deref-in-Lines.result.now in
    let has = subst (λ h. HasHead (left c.args.reader.now) (left c.read_head.new.reader) h c.read_head.new.last)
    (sym c.deref-in-Lines.ensures.value) c.in_ok-text.ensures.ok in
    let told = ap (asked_or_told c.args.asked) (c.deref-in-Lines.ensures.value ∙ sym c.deref.ensures.value)
    ∙ (sym c.in_ok-asked_or_told.ensures ∙ c.in-Lines.is) in
    ok_more c.made_of_lines.result _ _
    (λ made is. lines_ok c.args.asked (settings_told c.args.settings.now) (left c.args.reader.now)
    (left c.read_head.new.reader) head (g.M.Make.makes c.args.maker.now made) c.read_head.new.last has told is)
    c.made_of_lines.ensures.ok

pub returns-in-Lines-clause-err : goal.returns-in-Lines-clause-err
returns-in-Lines-clause-err g c =
    let left = g.R.Read.remaining in
    let head = c.deref-in-Lines.result.now in
    let has = subst (λ h. HasHead (left c.args.reader.now) (left c.read_head.new.reader) h c.read_head.new.last)
    (sym c.deref-in-Lines.ensures.value) c.in_ok-text.ensures.ok in
    let told = ap (asked_or_told c.args.asked) (c.deref-in-Lines.ensures.value ∙ sym c.deref.ensures.value)
    ∙ (sym c.in_ok-asked_or_told.ensures ∙ c.in-Lines.is) in
    err_more c.made_of_lines.result _ _
    (λ e is. lines_err c.args.asked (settings_told c.args.settings.now) (left c.args.reader.now)
    (left c.read_head.new.reader) head c.read_head.new.last e has told is)
    c.made_of_lines.ensures.err

pub returns-in_ok-read_to_end-in-Job-clause-ok : goal.returns-in_ok-read_to_end-in-Job-clause-ok
returns-in_ok-read_to_end-in-Job-clause-ok g c =
    let left = g.R.Read.remaining in
    let head = c.in_ok-text.text.items in
    let all = c.deref-in-Job.result.now in
    let told = ap (asked_or_told c.args.asked) (sym c.deref.ensures.value)
    ∙ (sym c.in_ok-asked_or_told.ensures ∙ c.in-Job.is) in
    let whole = subst (λ bytes. IfSome (left c.read_head.new.reader) (λ rest. bytes ≡ head ++ rest))
    (sym c.deref-in-Job.ensures.value) c.in_ok-read_to_end-in-Job.ensures.bytes in
    ok_more c.made_of_job.result _ _
    (λ made is. whole_ok c.args.asked (settings_told c.args.settings.now) Job (left c.args.reader.now)
    (left c.read_head.new.reader) head all (g.M.Make.makes c.args.maker.now made) c.read_head.new.last c.in_ok-text.ensures.ok told
    whole is)
    c.made_of_job.ensures.ok

pub returns-in_ok-read_to_end-in-Job-clause-err : goal.returns-in_ok-read_to_end-in-Job-clause-err
returns-in_ok-read_to_end-in-Job-clause-err g c =
    let left = g.R.Read.remaining in
    let head = c.in_ok-text.text.items in
    let all = c.deref-in-Job.result.now in
    let settings = settings_told c.args.settings.now in
    let told = ap (asked_or_told c.args.asked) (sym c.deref.ensures.value)
    ∙ (sym c.in_ok-asked_or_told.ensures ∙ c.in-Job.is) in
    let whole = subst (λ bytes. IfSome (left c.read_head.new.reader) (λ rest. bytes ≡ head ++ rest))
    (sym c.deref-in-Job.ensures.value) c.in_ok-read_to_end-in-Job.ensures.bytes in
    err_three c.made_of_job.result (IsRefusedInput Job settings all) (IfPlaced (IsInputPlace Job settings all))
    (IsPlacedIfNotJson Job all) _
    (λ e is there placed. whole_err c.args.asked settings Job (left c.args.reader.now) (left c.read_head.new.reader)
    head all c.read_head.new.last e c.in_ok-text.ensures.ok told whole refl is there placed)
    c.made_of_job.ensures.err c.made_of_job.ensures.place c.made_of_job.ensures.placed

pub returns-in_ok-read_to_end-in-Objects-clause-ok : goal.returns-in_ok-read_to_end-in-Objects-clause-ok
returns-in_ok-read_to_end-in-Objects-clause-ok g c =
    let left = g.R.Read.remaining in
    let head = c.in_ok-text.text.items in
    let all = c.deref-in-Objects.result.now in
    let told = ap (asked_or_told c.args.asked) (sym c.deref.ensures.value)
    ∙ (sym c.in_ok-asked_or_told.ensures ∙ c.in-Objects.is) in
    let whole = subst (λ bytes. IfSome (left c.read_head.new.reader) (λ rest. bytes ≡ head ++ rest))
    (sym c.deref-in-Objects.ensures.value) c.in_ok-read_to_end-in-Objects.ensures.bytes in
    ok_more c.made_of_array.result _ _
    (λ made is. whole_ok c.args.asked (settings_told c.args.settings.now) Objects (left c.args.reader.now)
    (left c.read_head.new.reader) head all (g.M.Make.makes c.args.maker.now made) c.read_head.new.last c.in_ok-text.ensures.ok told
    whole is)
    c.made_of_array.ensures.ok

pub returns-in_ok-read_to_end-in-Objects-clause-err : goal.returns-in_ok-read_to_end-in-Objects-clause-err
returns-in_ok-read_to_end-in-Objects-clause-err g c =
    let left = g.R.Read.remaining in
    let head = c.in_ok-text.text.items in
    let all = c.deref-in-Objects.result.now in
    let settings = settings_told c.args.settings.now in
    let told = ap (asked_or_told c.args.asked) (sym c.deref.ensures.value)
    ∙ (sym c.in_ok-asked_or_told.ensures ∙ c.in-Objects.is) in
    let whole = subst (λ bytes. IfSome (left c.read_head.new.reader) (λ rest. bytes ≡ head ++ rest))
    (sym c.deref-in-Objects.ensures.value) c.in_ok-read_to_end-in-Objects.ensures.bytes in
    err_three c.made_of_array.result (IsRefusedInput Objects settings all)
    (IfPlaced (IsInputPlace Objects settings all)) (IsPlacedIfNotJson Objects all) _
    (λ e is there placed. whole_err c.args.asked settings Objects (left c.args.reader.now) (left c.read_head.new.reader)
    head all c.read_head.new.last e c.in_ok-text.ensures.ok told whole refl is there placed)
    c.made_of_array.ensures.err c.made_of_array.ensures.place c.made_of_array.ensures.placed

pub returns-in-Lines-clause-noted : goal.returns-in-Lines-clause-noted
returns-in-Lines-clause-noted g c =
    let left = g.R.Read.remaining in
    let head = c.deref-in-Lines.result.now in
    let settings = settings_told c.args.settings.now in
    let has = subst (λ h. HasHead (left c.args.reader.now) (left c.read_head.new.reader) h c.read_head.new.last)
    (sym c.deref-in-Lines.ensures.value) c.in_ok-text.ensures.ok in
    let told = ap (asked_or_told c.args.asked) (c.deref-in-Lines.ensures.value ∙ sym c.deref.ensures.value)
    ∙ (sym c.in_ok-asked_or_told.ensures ∙ c.in-Lines.is) in
    on_more c.made_of_lines.result c.made_of_lines.ensures.noted
    (lines_as c.args.asked (λ form text. IsNotedAs form settings text c.args.notes.now c.made_of_lines.new.notes)
    (left c.args.reader.now) (left c.read_head.new.reader) head c.read_head.new.last has told)

pub returns-in_ok-read_to_end-in-Job-clause-noted : goal.returns-in_ok-read_to_end-in-Job-clause-noted
returns-in_ok-read_to_end-in-Job-clause-noted g c =
    let left = g.R.Read.remaining in
    let head = c.in_ok-text.text.items in
    let all = c.deref-in-Job.result.now in
    let settings = settings_told c.args.settings.now in
    let told = ap (asked_or_told c.args.asked) (sym c.deref.ensures.value)
    ∙ (sym c.in_ok-asked_or_told.ensures ∙ c.in-Job.is) in
    let whole = subst (λ bytes. IfSome (left c.read_head.new.reader) (λ rest. bytes ≡ head ++ rest))
    (sym c.deref-in-Job.ensures.value) c.in_ok-read_to_end-in-Job.ensures.bytes in
    on_more c.made_of_job.result c.made_of_job.ensures.noted
    (whole_as c.args.asked (λ form text. IsNotedAs form settings text c.args.notes.now c.made_of_job.new.notes) Job
    (left c.args.reader.now) (left c.read_head.new.reader) head all c.read_head.new.last c.in_ok-text.ensures.ok told
    whole)

pub returns-in_ok-read_to_end-in-Objects-clause-noted : goal.returns-in_ok-read_to_end-in-Objects-clause-noted
returns-in_ok-read_to_end-in-Objects-clause-noted g c =
    let left = g.R.Read.remaining in
    let head = c.in_ok-text.text.items in
    let all = c.deref-in-Objects.result.now in
    let settings = settings_told c.args.settings.now in
    let told = ap (asked_or_told c.args.asked) (sym c.deref.ensures.value)
    ∙ (sym c.in_ok-asked_or_told.ensures ∙ c.in-Objects.is) in
    let whole = subst (λ bytes. IfSome (left c.read_head.new.reader) (λ rest. bytes ≡ head ++ rest))
    (sym c.deref-in-Objects.ensures.value) c.in_ok-read_to_end-in-Objects.ensures.bytes in
    on_more c.made_of_array.result c.made_of_array.ensures.noted
    (whole_as c.args.asked (λ form text. IsNotedAs form settings text c.args.notes.now c.made_of_array.new.notes) Objects
    (left c.args.reader.now) (left c.read_head.new.reader) head all c.read_head.new.last c.in_ok-text.ensures.ok told
    whole)
