use Rattle.mem_server.proofs.lawful_server.MemServerTameServer.run.Goals as goal

pub returns-clause-ok : goal.returns-clause-ok
returns-clause-ok c = c.stored_again.ensures.run c.args.self.now c.args.session.now c.args.cmd.now c.run.new.self c.run.new.session c.in_ok-reply.reply c.in_ok-reply.ensures.ok
