use Rattle.std.proofs.Common.{string_bytes, refl, ap, ◌∙◌, chars}
use Rattle.std.proofs.lemmas.Str.{IsUtf8-string_bytes}
use Rattle.elasticlunr_text.specs.Classes.{in_class}
use Rattle.elasticlunr_text.specs.Trimmed.{up_to_last}
use Rattle.elasticlunr_text.proofs.CutTextLemmas.{kept-place}
use Rattle.elasticlunr_text.proofs.lang.common.class.Class.cut_end.Goals as goal

pub truncate-requires : goal.truncate-requires
truncate-requires c =
    let test = in_class c.args.self.now in
    let t = string_bytes c.args.token.now in
    let u = c.up_to_last-kept.result.now in λ _.
    (kept-place test t u (IsUtf8-string_bytes c.args.token.now) c.up_to_last-kept.utf8 _ (c.up_to_last-kept.ensures
    ∙ ap (λ bs. up_to_last test (chars bs)) c.as_str.ensures.value) refl).0

pub returns : goal.returns
returns c =
    let test = in_class c.args.self.now in
    let t = string_bytes c.args.token.now in
    let u = c.up_to_last-kept.result.now in
    let same = c.up_to_last-kept.ensures ∙ ap (λ bs. up_to_last test (chars bs)) c.as_str.ensures.value in
    let place = kept-place test t u (IsUtf8-string_bytes c.args.token.now) c.up_to_last-kept.utf8 _ same refl in
    ap chars (c.truncate.ensures.bytes ∙ place.1) ∙ same
