use Rattle.std.proofs.Common.{rules, ◌<◌, ◌≤◌, ◌^◌}
use Rattle.modelfile.proofs.Maps.{all_known, unknown}
use Rattle.modelfile.proofs.cursor.ByteCursor.bit_map.Goals as goal

pub returns-then-map-every-ne0 : goal.returns-then-map-every-ne0
returns-then-map-every-ne0 c =
    let small : c.in_ok-map.map < 2 ^ 32 = search rules in
    let more : c.args.every < c.in_ok-map.map = unknown c.args.every c.in_ok-map.map c.requires small c.if-map-every-ne0.true in
    search rules

pub returns : goal.returns
returns c =
    let small : c.in_ok-map.map < 2 ^ 32 = search rules in
    let few : c.in_ok-map.map ≤ c.args.every = all_known c.args.every c.in_ok-map.map c.requires small c.if-map-every-ne0.false in
    search rules
