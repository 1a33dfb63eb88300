use Rattle.dm_cmd_check.proofs.Names.{◌∙◌, List, ℕ, ap, refl, refusal_told, ◌++◌}
use Rattle.dm_cmd_check.proofs.judge.tell_refusal.Goals as goal

pub returns : goal.returns
returns c = record {
  tells = λ b h. record {
    refusal = c.args.refusal.now;
    refused = λ k s. (h k s).verdict;
    due = λ k wears s u. (h k s).due_is wears u;
    line_is = refl;
    why_is = c.number.ensures;
    text_is = c.in_ok-put_refusal.ensures ∙ ap (λ (t : List ℕ). t ++ refusal_told c.args.trace.now c.args.refusal.now) c.new-text.ensures.items;
  };
}
