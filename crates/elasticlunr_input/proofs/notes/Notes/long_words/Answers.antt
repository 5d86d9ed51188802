use Rattle.std.proofs.Common.{◌≡◌, ◌++◌, ◌∷◌, [], codes, string_bytes, sym, ap, ◌∙◌, if◌then◌else◌}
use Rattle.std.proofs.lemmas.Bool.{lt-ltb}
use Rattle.elasticlunr_text.specs.Text.{Bytes, bytes_of}
use Rattle.elasticlunr_input.specs.Noted.{long_text, long_warnings}
use Rattle.elasticlunr_input.specs.Warnings.{warnings_of}
use Rattle.elasticlunr_diagnostics.specs.Messages.{counted_text}
use Rattle.elasticlunr_input.proofs.Warned.{one_more}
use Rattle.std.proofs.Common.{rules}
use Rattle.elasticlunr_input.proofs.notes.Notes.long_words.Goals as goal

pub returns : goal.returns
returns c =
    let old = c.args.self.now in
    let longest = c.in-Some-true.longest in
    let text = long_text old.longer longest in
    let ends = codes ": no search finds such a word" in
    let said : string_bytes c.in_ok-said.said ≡ text = c.in_ok-said.ensures.ok
    ∙ (ap (λ (words : Bytes). words ++ (codes " of more than " ++ (string_bytes c.in_ok-most.most ++ ends)))
    c.in_ok-words.ensures
    ∙ ap (λ (most : Bytes). counted_text old.longer (codes "word") ++ (codes " of more than " ++ (most ++ ends)))
    c.in_ok-most.ensures) in
    let due : long_warnings old.longest old.longer ≡ text ∷ [] =
    ap (λ most. long_warnings most old.longer) c.in-Some-true.is-0
    ∙ ap (λ b. if b then text ∷ [] else []) (lt-ltb 0 old.longer c.in-Some-true.is-1) in
    ap bytes_of c.in_ok-push.ensures.items ∙ (one_more old.warnings.items c.in_ok-said.said text said
    ∙ ap (λ ws. warnings_of old ++ ws) (sym due))

pub returns-in_default : goal.returns-in_default
returns-in_default c = search rules

pub returns-in_default-2 : goal.returns-in_default-2
returns-in_default-2 c = search rules
