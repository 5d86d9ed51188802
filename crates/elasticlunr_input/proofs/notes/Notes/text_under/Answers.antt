use Rattle.std.proofs.Common.{◌≡◌, ◌||◌, Bool, true, false, cond, ap, bytes_eq, refl, sym, ◌∙◌}
use Rattle.std.specs.BTreeSet.{contains_text}
use Rattle.std.specs.Option.{option_map_or}
use Rattle.std.proofs.Math.Bool.{or-false}
use Rattle.std.proofs.lemmas.Map.Text.{btree_set_updates_text}
use Rattle.std.proofs.Common.{arith, rules}
use Rattle.std.proofs.lemmas.Grind.{common_steps}
use Rattle.elasticlunr_input.proofs.notes.Notes.text_under.Goals as goal

or_true : (b : Bool) → true ≡ (b || true)
or_true true = refl
or_true false = refl

put_there : (is_key was : Bool) → cond is_key true was ≡ (was || is_key)
put_there true was = or_true was
put_there false was = sym (or-false was)

pub returns-clause-known : goal.returns-clause-known
returns-clause-known c k =
    let key = c.args.key.now in
    btree_set_updates_text _ c.in-Some.known c.insert.new.self true c.in_ok-insert.ensures.updates k
    ∙ (ap (λ bs. cond (bytes_eq bs k) true (contains_text c.in-Some.known k)) c.in_ok-from_str.ensures.ok
    ∙ (put_there (bytes_eq key k) (contains_text c.in-Some.known k)
    ∙ ap (λ known. option_map_or (λ known. contains_text known k) known true || bytes_eq key k) (sym c.in-Some.is)))

pub returns-in_default-clause-warnings : goal.returns-in_default-clause-warnings
returns-in_default-clause-warnings c = search rules

pub returns-in_default-clause-known : goal.returns-in_default-clause-known
returns-in_default-clause-known c = search rules

pub returns-in_default-clause-taken : goal.returns-in_default-clause-taken
returns-in_default-clause-taken c = search rules

pub returns-in_default-clause-references : goal.returns-in_default-clause-references
returns-in_default-clause-references c = search rules

pub returns-in_default-clause-words : goal.returns-in_default-clause-words
returns-in_default-clause-words c = search rules

pub returns-then-contains-clause-warnings : goal.returns-then-contains-clause-warnings
returns-then-contains-clause-warnings c = search rules

pub returns-then-contains-clause-known : goal.returns-then-contains-clause-known
returns-then-contains-clause-known c = search rules

pub returns-then-contains-clause-taken : goal.returns-then-contains-clause-taken
returns-then-contains-clause-taken c = search rules

pub returns-then-contains-clause-references : goal.returns-then-contains-clause-references
returns-then-contains-clause-references c = search rules

pub returns-then-contains-clause-words : goal.returns-then-contains-clause-words
returns-then-contains-clause-words c = search rules

pub returns-clause-warnings : goal.returns-clause-warnings
returns-clause-warnings c = grind (arith, common_steps)

pub returns-clause-taken : goal.returns-clause-taken
returns-clause-taken c = search rules

pub returns-clause-references : goal.returns-clause-references
returns-clause-references c = search rules

pub returns-clause-words : goal.returns-clause-words
returns-clause-words c = search rules
