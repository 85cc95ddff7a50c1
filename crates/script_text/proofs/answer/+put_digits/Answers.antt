use Rattle.std.proofs.Common.{arith}
use Rattle.script_text.proofs.Texts.{one_length, step_length, more_digits, one_digit}
use Rattle.script_text.proofs.answer.+put_digits.Goals as goal

pub put_digits-requires : goal.put_digits-requires
put_digits-requires t c = let s = step_length c.args.n (omega arith) (omega arith) in (omega arith, omega arith)

pub push-requires : goal.push-requires
push-requires t c = let s = one_length c.args.n (omega arith) in omega arith

pub push-requires-2 : goal.push-requires-2
push-requires-2 t c = let s = step_length c.args.n (omega arith) (omega arith) in (omega arith, omega arith)

pub returns-then-n-lt10 : goal.returns-then-n-lt10
returns-then-n-lt10 t c = record {
  items = one_digit c.args.out.now.items c.push.new.self.items c.args.n (omega arith) c.push.ensures.items;
  len = let s = one_length c.args.n (omega arith) in omega arith;
}

pub returns : goal.returns
returns t c = record {
  items = more_digits c.args.out.now.items c.put_digits.new.out.items c.push-2.new.self.items c.args.n (omega arith) (omega arith) c.put_digits.ensures.items c.push-2.ensures.items;
  len = let s = step_length c.args.n (omega arith) (omega arith) in omega arith;
}
