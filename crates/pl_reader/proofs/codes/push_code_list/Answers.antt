use Rattle.std.specs.Str.{chars}
use Rattle.pl_reader.proofs.CodeLists.{code_list_out}
use Rattle.pl_reader.proofs.codes.push_code_list.Goals as goal

pub returns : goal.returns
returns c = λ num look are.
    code_list_out num look c.args.names (chars c.args.text.now) c.args.out.now.items c.push_codes.new.out.items c.push.new.self.items c.push_dots.new.out.items c.in_ok-count.count are c.in_ok-count.ensures.codes c.in_ok-push.ensures.items c.in_ok-push_dots.ensures c.in_ok-count.ensures.count
