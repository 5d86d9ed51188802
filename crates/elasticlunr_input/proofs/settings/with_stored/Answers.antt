use Rattle.std.proofs.Common.{◌≡◌, ◌++◌, ◌∷◌, ◌∙◌, Bor, ap, filter, not, refl, rules}
use Rattle.std.proofs.lemmas.Fn.{filter_same}
use Rattle.std.proofs.lemmas.List.{map-append}
use Rattle.elasticlunr.specs.Fields.{borrowed, has_name}
use Rattle.elasticlunr_text.specs.Text.{Bytes, bytes_of}
use Rattle.elasticlunr_job.proofs.KeptWords.{map-filter}
use Rattle.elasticlunr_input.proofs.settings.with_stored.Goals as goal

pub returns : goal.returns
returns c =
    let fields = c.args.fields.items in
    let reference = c.args.reference_field.now in
    let is_new = λ (name : Bytes). not (has_name name (reference ∷ borrowed fields)) in
    let only = filter_same _ (λ (name : Bor Bytes). is_new name.now) _ (λ x b f k. (search rules, search rules))
    c.in_ok-more.more.items c.retain.new.self.items c.retain.ensures.filtered in
    let more : borrowed c.retain.new.self.items ≡ filter is_new (bytes_of c.in-Some.rules.stored.items) =
    ap borrowed only
    ∙ map-filter (λ (name : Bor Bytes). name.now) is_new (λ name. is_new name.now) (λ name. refl)
    c.in_ok-more.more.items
    ∙ ap (filter is_new) (c.in_ok-more.ensures ∙ ap bytes_of c.deref.ensures.value) in
    rw c.in-Some.is (ap borrowed c.in_ok-extend_from_slice.ensures.items
    ∙ map-append (λ (name : Bor Bytes). name.now) fields c.deref-2.result.now
    ∙ ap (λ names. borrowed fields ++ borrowed names) c.deref-2.ensures.value
    ∙ ap (λ names. borrowed fields ++ names) more)

pub returns-in_default : goal.returns-in_default
returns-in_default c = search rules
