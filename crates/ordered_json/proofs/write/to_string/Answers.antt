use Rattle.std.proofs.Common.{◌≡◌, ◌++◌, string_bytes, ap, ◌∙◌, subst, rules}
use Rattle.json.specs.Lex.{tokens}
use Rattle.json.specs.Print.{print}
use Rattle.json.specs.Tree.{json_tokens}
use Rattle.ordered_json.specs.View.{view}
use Rattle.ordered_json.proofs.Writing.{read-tokens}
use Rattle.ordered_json.proofs.write.to_string.Goals as goal

pub returns-clause-reads_back : goal.returns-clause-reads_back
returns-clause-reads_back c within =
    let j = view c.args.value.now in
    let text : string_bytes c.text_of.result ≡ print (json_tokens j) = search rules in
    let made = c.in_ok-write.ensures.tokens ∙ ap (λ ts. ts ++ json_tokens j) c.new-2.ensures.tokens in
    let back = subst (λ ts. tokens (print ts) ≡ ts) made c.into_inner.ensures.reads_back in
    read-tokens _ j (ap tokens text ∙ back) c.in_ok-write.ensures.resolved within
