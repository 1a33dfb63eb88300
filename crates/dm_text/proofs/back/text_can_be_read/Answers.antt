use Rattle.dm_text.proofs.LinesBack.{lines-back, text-same, trace-back, trace-same}
use Rattle.dm_text.proofs.back.text_can_be_read.Goals as goal

pub returns : goal.returns
returns c = record { spelt = lines-back; once = text-same; traced = trace-back; traced_once = trace-same }
