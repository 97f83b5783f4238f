use native.Mathlib.Omega.{arith}
use Rattle.spelling.specs.Utf8.{ahead, leads}
use Rattle.spelling.specs.Spelling.{lead_says}
use Rattle.spelling.proofs.Utf8Rows.{lead_row, no_row}
use Rattle.spelling.proofs.utf8.lead_of.Goals as goal

pub returns-in-224 : goal.returns-in-224
unfolding leads lead_says
returns-in-224 c = lead_row _ 2 (0xE0, 0xE0, ahead 2 0xA0 0xBF) (omega (arith, c.in-224.is))

pub returns-in-237 : goal.returns-in-237
unfolding leads lead_says
returns-in-237 c = lead_row _ 4 (0xED, 0xED, ahead 2 0x80 0x9F) (omega (arith, c.in-237.is))

pub returns-in-240 : goal.returns-in-240
unfolding leads lead_says
returns-in-240 c = lead_row _ 6 (0xF0, 0xF0, ahead 3 0x90 0xBF) (omega (arith, c.in-240.is))

pub returns-in-244 : goal.returns-in-244
unfolding leads lead_says
returns-in-244 c = lead_row _ 8 (0xF4, 0xF4, ahead 3 0x80 0x8F) (omega (arith, c.in-244.is))

pub returns-in-0-to-127 : goal.returns-in-0-to-127
unfolding leads lead_says
returns-in-0-to-127 c = lead_row _ 0 (0x00, 0x7F, ahead 0 0x80 0xBF) (omega arith)

pub returns-in-194-to-223 : goal.returns-in-194-to-223
unfolding leads lead_says
returns-in-194-to-223 c = lead_row _ 1 (0xC2, 0xDF, ahead 1 0x80 0xBF) (omega arith)

pub returns-in-225-to-236 : goal.returns-in-225-to-236
unfolding leads lead_says
returns-in-225-to-236 c =
    lead_row _ 3 (0xE1, 0xEC, ahead 2 0x80 0xBF)
    (omega arith)

pub returns-in-238-to-239 : goal.returns-in-238-to-239
unfolding leads lead_says
returns-in-238-to-239 c =
    lead_row _ 5 (0xEE, 0xEF, ahead 2 0x80 0xBF)
    (omega arith)

pub returns-in-241-to-243 : goal.returns-in-241-to-243
unfolding leads lead_says
returns-in-241-to-243 c =
    lead_row _ 7 (0xF1, 0xF3, ahead 3 0x80 0xBF)
    (omega arith)

pub returns-in-128-to-193 : goal.returns-in-128-to-193
unfolding leads lead_says
returns-in-128-to-193 c = no_row _ 1 (omega arith)

pub returns-in-245-to-255 : goal.returns-in-245-to-255
unfolding leads lead_says
returns-in-245-to-255 c = no_row _ 9 (omega arith)
