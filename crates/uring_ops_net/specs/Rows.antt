-- For each operation what its builder begins with, and the words of its entry: those that aren't 0, in the order of the layout.
use Rattle.std.specs.Prelude.{ℕ, ℤ, pos, Option, None, false, bit_or, replicate, take, drop, if◌then◌else◌, ◌+◌, ◌*◌, ◌^◌, unwrap_or}
use Rattle.uring_base.specs.declared.opcodes.TheConstants as opcodes
use Rattle.uring_base.specs.declared.squeue.Entry.{Entry}
use Rattle.uring_large.specs.declared.squeue.Entry128.{Entry128}
use Rattle.uring_base.specs.declared.types.Fd.{Fd}
use Rattle.uring_base.specs.declared.types.Fixed.{Fixed}
use Rattle.uring_base.specs.declared.types.Target.{Target}
use Rattle.uring_base.specs.Words.{blank, bits_of, long_bits_of, where_some}
use Rattle.uring_base.specs.Targets.{on}
use Rattle.uring_base.specs.Bytes.{long_at}
use Rattle.uring_base.specs.FlagBits.{bits_in}
use Rattle.uring_base.specs.declared.flags.TheConstants.Flags.{BUFFER_SELECT}
use Rattle.uring_types.specs.declared.slots.TheConstants.{ANY_SLOT}
use Rattle.uring_ops_net.specs.declared.marks.TheConstants as marks
use Rattle.uring_ops_net.specs.declared.accepts.Accept.{Accept}
use Rattle.uring_ops_net.specs.declared.accepts.AcceptMulti.{AcceptMulti}
use Rattle.uring_ops_net.specs.declared.commands.UringCmd16.{UringCmd16}
use Rattle.uring_ops_net.specs.declared.commands.UringCmd80.{UringCmd80}
use Rattle.uring_ops_net.specs.declared.epoll.EpollCtl.{EpollCtl}
use Rattle.uring_ops_net.specs.declared.epoll.EpollWait.{EpollWait}
use Rattle.uring_ops_net.specs.declared.messages.RecvMsg.{RecvMsg}
use Rattle.uring_ops_net.specs.declared.messages.RecvMsgMulti.{RecvMsgMulti}
use Rattle.uring_ops_net.specs.declared.messages.SendMsg.{SendMsg}
use Rattle.uring_ops_net.specs.declared.messages.SendMsgZc.{SendMsgZc}
use Rattle.uring_ops_net.specs.declared.receives.Recv.{Recv}
use Rattle.uring_ops_net.specs.declared.receives.RecvBundle.{RecvBundle}
use Rattle.uring_ops_net.specs.declared.receives.RecvMulti.{RecvMulti}
use Rattle.uring_ops_net.specs.declared.receives.RecvMultiBundle.{RecvMultiBundle}
use Rattle.uring_ops_net.specs.declared.receives.RecvZc.{RecvZc}
use Rattle.uring_ops_net.specs.declared.rings.MsgRingData.{MsgRingData}
use Rattle.uring_ops_net.specs.declared.rings.MsgRingSendFd.{MsgRingSendFd}
use Rattle.uring_ops_net.specs.declared.sends.Send.{Send}
use Rattle.uring_ops_net.specs.declared.sends.SendBundle.{SendBundle}
use Rattle.uring_ops_net.specs.declared.sends.SendZc.{SendZc}
use Rattle.uring_ops_net.specs.declared.sockets.Bind.{Bind}
use Rattle.uring_ops_net.specs.declared.sockets.Connect.{Connect}
use Rattle.uring_ops_net.specs.declared.sockets.Listen.{Listen}
use Rattle.uring_ops_net.specs.declared.sockets.SetSockOpt.{SetSockOpt}
use Rattle.uring_ops_net.specs.declared.sockets.Shutdown.{Shutdown}
use Rattle.uring_ops_net.specs.declared.sockets.Socket.{Socket}

abbrev pub new_send_msg : Target → ℕ → SendMsg
new_send_msg fd msg = record { fd = fd; msg = msg; ioprio = 0; flags = 0 }

abbrev pub send_msg_words : SendMsg → Entry
send_msg_words send = on send.fd (record (blank opcodes.SENDMSG) { prio = send.ioprio; addr = send.msg; len = 1; op = send.flags })

abbrev pub new_recv_msg : Target → ℕ → RecvMsg
new_recv_msg fd msg = record { fd = fd; msg = msg; ioprio = 0; flags = 0; buf_group = 0 }

abbrev pub recv_msg_words : RecvMsg → Entry
recv_msg_words recv = on recv.fd (record (blank opcodes.RECVMSG) { prio = recv.ioprio; addr = recv.msg; len = 1; op = recv.flags; buf = recv.buf_group })

abbrev pub new_recv_msg_multi : Target → ℕ → ℕ → RecvMsgMulti
new_recv_msg_multi fd msg buf_group = record { fd = fd; msg = msg; buf_group = buf_group; ioprio = 0; flags = 0 }

abbrev pub recv_msg_multi_words : RecvMsgMulti → Entry
recv_msg_multi_words recv = on recv.fd (record (blank opcodes.RECVMSG) { flags = bits_in BUFFER_SELECT; prio = bit_or recv.ioprio marks.RECV_MULTISHOT; addr = recv.msg; len = 1; op = recv.flags; buf = recv.buf_group })

abbrev pub new_accept : Target → ℕ → ℕ → Accept
new_accept fd addr addrlen = record { fd = fd; addr = addr; addrlen = addrlen; file_index = None; flags = pos 0 }

abbrev pub accept_words : Accept → Entry
accept_words accept = on accept.fd (record (blank opcodes.ACCEPT) { off = accept.addrlen; addr = accept.addr; op = bits_of accept.flags; idx = unwrap_or accept.file_index 0 })

abbrev pub new_accept_multi : Target → AcceptMulti
new_accept_multi fd = record { fd = fd; allocate_file_index = false; flags = pos 0 }

abbrev pub accept_multi_words : AcceptMulti → Entry
accept_multi_words accept = on accept.fd (record (blank opcodes.ACCEPT) { prio = marks.ACCEPT_MULTISHOT; op = bits_of accept.flags; idx = if accept.allocate_file_index then ANY_SLOT else 0 })

abbrev pub new_connect : Target → ℕ → ℕ → Connect
new_connect fd addr addrlen = record { fd = fd; addr = addr; addrlen = addrlen }

abbrev pub connect_words : Connect → Entry
connect_words connect = on connect.fd (record (blank opcodes.CONNECT) { off = connect.addrlen; addr = connect.addr })

abbrev pub new_send : Target → ℕ → ℕ → Send
new_send fd buf len = record { fd = fd; buf = buf; len = len; ioprio = 0; flags = pos 0; dest_addr = 0; dest_addr_len = 0 }

abbrev pub send_words : Send → Entry
send_words send = on send.fd (record (blank opcodes.SEND) { prio = send.ioprio; off = send.dest_addr; addr = send.buf; len = send.len; op = bits_of send.flags; idx = send.dest_addr_len })

abbrev pub new_send_bundle : Target → ℕ → SendBundle
new_send_bundle fd buf_group = record { fd = fd; buf_group = buf_group; flags = pos 0; len = 0 }

abbrev pub send_bundle_words : SendBundle → Entry
send_bundle_words send = on send.fd (record (blank opcodes.SEND) { flags = bits_in BUFFER_SELECT; prio = marks.BUNDLE; len = send.len; op = bits_of send.flags; buf = send.buf_group })

abbrev pub new_recv : Target → ℕ → ℕ → Recv
new_recv fd buf len = record { fd = fd; buf = buf; len = len; ioprio = 0; flags = pos 0; buf_group = 0 }

abbrev pub recv_words : Recv → Entry
recv_words recv = on recv.fd (record (blank opcodes.RECV) { prio = recv.ioprio; addr = recv.buf; len = recv.len; op = bits_of recv.flags; buf = recv.buf_group })

abbrev pub new_recv_multi : Target → ℕ → RecvMulti
new_recv_multi fd buf_group = record { fd = fd; buf_group = buf_group; flags = pos 0; len = 0 }

abbrev pub recv_multi_words : RecvMulti → Entry
recv_multi_words recv = on recv.fd (record (blank opcodes.RECV) { flags = bits_in BUFFER_SELECT; prio = marks.RECV_MULTISHOT; len = recv.len; op = bits_of recv.flags; buf = recv.buf_group })

abbrev pub new_recv_bundle : Target → ℕ → RecvBundle
new_recv_bundle fd buf_group = record { fd = fd; buf_group = buf_group; flags = pos 0 }

abbrev pub recv_bundle_words : RecvBundle → Entry
recv_bundle_words recv = on recv.fd (record (blank opcodes.RECV) { flags = bits_in BUFFER_SELECT; prio = marks.BUNDLE; op = bits_of recv.flags; buf = recv.buf_group })

abbrev pub new_recv_multi_bundle : Target → ℕ → RecvMultiBundle
new_recv_multi_bundle fd buf_group = record { fd = fd; buf_group = buf_group; flags = pos 0 }

abbrev pub recv_multi_bundle_words : RecvMultiBundle → Entry
recv_multi_bundle_words recv = on recv.fd (record (blank opcodes.RECV) { flags = bits_in BUFFER_SELECT; prio = bit_or marks.RECV_MULTISHOT marks.BUNDLE; op = bits_of recv.flags; buf = recv.buf_group })

abbrev pub new_epoll_ctl : Target → Fd → ℤ → ℕ → EpollCtl
new_epoll_ctl epfd fd op ev = record { epfd = epfd; fd = fd; op = op; ev = ev }

abbrev pub epoll_ctl_words : EpollCtl → Entry
epoll_ctl_words epoll = on epoll.epfd (record (blank opcodes.EPOLL_CTL) { off = long_bits_of epoll.fd.0; addr = epoll.ev; len = bits_of epoll.op })

abbrev pub new_shutdown : Target → ℤ → Shutdown
new_shutdown fd how = record { fd = fd; how = how }

abbrev pub shutdown_words : Shutdown → Entry
shutdown_words shutdown = on shutdown.fd (record (blank opcodes.SHUTDOWN) { len = bits_of shutdown.how })

abbrev pub new_msg_ring_data : Fd → ℤ → ℕ → Option ℕ → MsgRingData
new_msg_ring_data ring_fd res user_data user_flags = record { ring_fd = ring_fd; res = res; user_data = user_data; user_flags = user_flags; opcode_flags = 0 }

abbrev pub msg_ring_data_words : MsgRingData → Entry
msg_ring_data_words message = record (blank opcodes.MSG_RING) { fd = message.ring_fd.0; off = message.user_data; len = bits_of message.res; op = bit_or message.opcode_flags (where_some message.user_flags marks.FLAGS_PASS); idx = unwrap_or message.user_flags 0 }

abbrev pub new_msg_ring_send_fd : Fd → Fixed → ℕ → ℕ → MsgRingSendFd
new_msg_ring_send_fd ring_fd fixed_slot_src dest_slot_index user_data = record { ring_fd = ring_fd; fixed_slot_src = fixed_slot_src; dest_slot_index = dest_slot_index; user_data = user_data; opcode_flags = 0 }

abbrev pub msg_ring_send_fd_words : MsgRingSendFd → Entry
msg_ring_send_fd_words message = record (blank opcodes.MSG_RING) { fd = message.ring_fd.0; off = message.user_data; addr = marks.SEND_FD; op = message.opcode_flags; idx = message.dest_slot_index; third = message.fixed_slot_src.0 }

abbrev pub new_socket : ℤ → ℤ → ℤ → Socket
new_socket domain socket_type protocol = record { domain = domain; socket_type = socket_type; protocol = protocol; file_index = None; flags = pos 0 }

abbrev pub socket_words : Socket → Entry
socket_words socket = record (blank opcodes.SOCKET) { fd = socket.domain; off = long_bits_of socket.socket_type; len = bits_of socket.protocol; op = bits_of socket.flags; idx = unwrap_or socket.file_index 0 }

abbrev pub new_uring_cmd16 : Target → ℕ → UringCmd16
new_uring_cmd16 fd cmd_op = record { fd = fd; cmd_op = cmd_op; buf_index = None; cmd = replicate 16 0; addr = None }

abbrev pub uring_cmd16_words : UringCmd16 → Entry
uring_cmd16_words command = on command.fd (record (blank opcodes.URING_CMD) { off = command.cmd_op; addr = unwrap_or command.addr 0; op = where_some command.buf_index marks.CMD_FIXED; buf = unwrap_or command.buf_index 0; third = long_at command.cmd 0; fourth = long_at command.cmd 8 })

abbrev pub new_uring_cmd80 : Target → ℕ → UringCmd80
new_uring_cmd80 fd cmd_op = record { fd = fd; cmd_op = cmd_op; buf_index = None; cmd = replicate 80 0; addr = None }

-- the small command with the first sixteen bytes of a large one
abbrev pub first_sixteen : UringCmd80 → UringCmd16
first_sixteen command = record { fd = command.fd; cmd_op = command.cmd_op; buf_index = command.buf_index; cmd = take 16 command.cmd; addr = command.addr }

-- that command's words, and the rest of the bytes behind them
abbrev pub uring_cmd80_words : UringCmd80 → Entry128
uring_cmd80_words command = record { entry = uring_cmd16_words (first_sixteen command); big = drop 16 command.cmd }

abbrev pub new_set_sock_opt : Target → ℕ → ℕ → ℕ → ℕ → SetSockOpt
new_set_sock_opt fd level optname optval optlen = record { fd = fd; level = level; optname = optname; optval = optval; optlen = optlen; flags = 0 }

abbrev pub set_sock_opt_words : SetSockOpt → Entry
set_sock_opt_words option = on option.fd (record (blank opcodes.URING_CMD) { off = marks.SET_SOCK_OPT; addr = option.level + option.optname * 2 ^ 32; op = option.flags; idx = option.optlen; third = option.optval })

abbrev pub new_send_zc : Target → ℕ → ℕ → SendZc
new_send_zc fd buf len = record { fd = fd; buf = buf; len = len; buf_index = None; dest_addr = 0; dest_addr_len = 0; flags = pos 0; zc_flags = 0 }

abbrev pub send_zc_words : SendZc → Entry
send_zc_words send = on send.fd (record (blank opcodes.SEND_ZC) { prio = bit_or send.zc_flags (where_some send.buf_index marks.FIXED_BUF); off = send.dest_addr; addr = send.buf; len = send.len; op = bits_of send.flags; buf = unwrap_or send.buf_index 0; idx = send.dest_addr_len })

abbrev pub new_send_msg_zc : Target → ℕ → SendMsgZc
new_send_msg_zc fd msg = record { fd = fd; msg = msg; ioprio = 0; flags = 0 }

abbrev pub send_msg_zc_words : SendMsgZc → Entry
send_msg_zc_words send = on send.fd (record (blank opcodes.SENDMSG_ZC) { prio = send.ioprio; addr = send.msg; len = 1; op = send.flags })

abbrev pub new_bind : Target → ℕ → ℕ → Bind
new_bind fd addr addrlen = record { fd = fd; addr = addr; addrlen = addrlen }

abbrev pub bind_words : Bind → Entry
bind_words bind = on bind.fd (record (blank opcodes.BIND) { off = bind.addrlen; addr = bind.addr })

abbrev pub new_listen : Target → ℤ → Listen
new_listen fd backlog = record { fd = fd; backlog = backlog }

abbrev pub listen_words : Listen → Entry
listen_words listen = on listen.fd (record (blank opcodes.LISTEN) { len = bits_of listen.backlog })

abbrev pub new_recv_zc : Target → ℕ → RecvZc
new_recv_zc fd len = record { fd = fd; len = len; ifq = 0; ioprio = 0 }

abbrev pub recv_zc_words : RecvZc → Entry
recv_zc_words recv = on recv.fd (record (blank opcodes.RECV_ZC) { prio = bit_or recv.ioprio marks.RECV_MULTISHOT; len = recv.len; idx = recv.ifq })

abbrev pub new_epoll_wait : Target → ℕ → ℕ → EpollWait
new_epoll_wait fd events max_events = record { fd = fd; events = events; max_events = max_events; flags = 0 }

abbrev pub epoll_wait_words : EpollWait → Entry
epoll_wait_words epoll = on epoll.fd (record (blank opcodes.EPOLL_WAIT) { addr = epoll.events; len = epoll.max_events; op = epoll.flags })
